-- Laws of `UsesVars`.
use mathlib.Core.Path.{◌≡◌, refl, sym, ◌∙◌, ap, subst}
use mathlib.Core.Bool.{Bool, true, false}
use mathlib.Core.List.{List}
use mathlib.Core.Option.{some}
use Prim.Native.Nat.{ℕ, ◌≤◌}
use Rattle.std.specs.Prelude.{None, Some}
use native.Mathlib.Omega.{arith}
use lib.ListN.{length-append}
use Rattle.base.specs.Limits as limits
use Rattle.base.proofs.Laws.Truth.{not-both}
use Rattle.names.specs.Inner.Names.{Names}
use Rattle.sheet.specs.Inner.Sheet.{row_at}
use Rattle.definition.specs.Uses.{undefined_var, index_definitions}
use Rattle.definition.specs.States.{State, set_scope, add_first_uses, add_definitions}
use Rattle.definition.specs.Using.{gather_used_vars}
use Rattle.scope_walk.specs.Inner.Sheets.{sheet_at, Accepted}
use Rattle.scope_walk.specs.Inner.Exprs.{expr_by}
use Rattle.definition_walk.specs.Inner.Own.{Holds}
use Rattle.definition_walk.specs.Inner.Undefined.{Undefined}
use Rattle.definition_state.specs.declared.Fault.TheVariants.{Undefined as UndefinedAt}
use Rattle.definition_state.specs.declared.Progress.{Progress}
use Rattle.definition_state.specs.Inner.Faults.{is_sound, meaning}
use Rattle.definition_state.specs.Inner.Frames.{failed, guarded, WholeState, Agree, Grown, Ready}
use Rattle.definition_state.proofs.Laws.Steps.{guarded_when_sound, agree_sound, agree_whole, failed-leaves, runs-stays}
use Rattle.definition_expr.specs.declared.Using.{Using}
use Rattle.definition_expr.specs.Inner.ComprRows.{ComprsAt}
use Rattle.definition_expr.proofs.Laws.ComprRows.{comprs-here}
use Rattle.definition_expr.proofs.Laws.Gathers.{use_all, gather-defined, gather-undefined}
use Rattle.definition_expr.proofs.Laws.Defined.{UsesDefined}
use Rattle.definition_expr.specs.Inner.UsesVars.{UsesVars}

module _ (t : List ℕ) (extras : Names) (statement row : ℕ) (rest : Bool) (p : Progress) (firsts work : List ℕ) where
  -- A fault is there already.
  pub uses-none : is_sound p.fault ≡ false → (e : Names) → UsesVars t extras statement row rest p firsts work (record { progress = p; names = e; comprs = row }) firsts work
  uses-none b e = record {
    runs = λ l h. runs-stays t (gather_used_vars (sheet_at t) statement l (expr_by t rest row)) p firsts work b;
    names = λ l h spans s a fine. absurd (not-both fine b);
    recorded = λ l h spans s a fine. absurd (not-both fine b);
    sound-before = λ fine. fine;
    comprs = comprs-here t rest row;
  }

  module _ (fine : is_sound p.fault ≡ true) where
    whole : (spans : List ℕ) (s : State) → Agree t spans p firsts work s → WholeState t spans p firsts work s
    whole spans s a = agree_whole t spans p firsts work s a fine

    -- The step is done.
    done : (f : State → State) (spans : List ℕ) (s : State) → Agree t spans p firsts work s → guarded f s ≡ f s
    done f spans s a = guarded_when_sound f s (agree_sound t spans p firsts work s a fine)

    -- ---- a variable is undefined

    module _ (at : ℕ) (found : Undefined t p.scope row rest (Some at)) where
      -- The row that is found stands in the tables.
      pub undefined-low : (more : ℕ) → Ready t p firsts work more → Accepted t → at ≤ limits.most_expressions
      undefined-low more h ok = omega (arith, ok.within.few-exprs, (found h.state.scope (whole h.spans h.state h.agrees).scope.sets).high)

      variable : (spans : List ℕ) (s : State) → Agree t spans p firsts work s
          → undefined_var (sheet_at t) s.scope (expr_by t rest row) ≡ some (row_at t at)
      variable spans s a = (found s.scope (whole spans s a).scope.sets).is

      -- What the walk left is not asked after, but for the rows that were there.
      module _ (firsts' work' : List ℕ) (grown : (r : Progress) → p.count ≤ r.count → r.width ≡ p.width → Grown t p work r work') where
        stops : (e : Names) → UsesVars t extras statement row rest p firsts work (record { progress = failed p (UndefinedAt (row_at t at).line (row_at t at).col); names = e; comprs = row }) firsts' work'
        stops e = record {
          runs = λ l h. record {
            grown = grown (failed p (UndefinedAt (row_at t at).line (row_at t at).col)) (omega arith) refl;
            agrees = λ spans s a.
                subst (Agree t spans (failed p (UndefinedAt (row_at t at).line (row_at t at).col)) firsts' work')
                (sym (done (gather_used_vars (sheet_at t) statement l (expr_by t rest row)) spans s a
                ∙ gather-undefined (sheet_at t) statement l (expr_by t rest row) s (row_at t at) (variable spans s a)))
                (failed-leaves t spans p firsts work firsts' work' s a (UndefinedAt (row_at t at).line (row_at t at).col));
          };
          names = λ l h spans s a b. absurd (not-both b refl);
          recorded = λ l h spans s a b. absurd (not-both b refl);
          sound-before = λ b. absurd (not-both b refl);
          comprs = comprs-here t rest row;
        }

        pub uses-undefined : (q : Progress) → q ≡ failed p (UndefinedAt (row_at t at).line (row_at t at).col)
            → (e : Names) → UsesVars t extras statement row rest p firsts work (record { progress = q; names = e; comprs = row }) firsts' work'
        uses-undefined q is e = subst (λ (o : Progress). UsesVars t extras statement row rest p firsts work (record { progress = o; names = e; comprs = row }) firsts' work') (sym is) (stops e)

    -- ---- all are defined

    module _ (found : Undefined t p.scope row rest None) (r : Using) (firsts' work' : List ℕ)
        (d : UsesDefined t extras statement row rest p firsts work r firsts' work') (c : ComprsAt t rest row r.comprs) where
      defined-agrees : (l : List ℕ) → Holds extras l → (spans : List ℕ) (s : State) → Agree t spans p firsts work s
          → Agree t spans r.progress firsts' work' (use_all (sheet_at t) statement l (expr_by t rest row) s)
      unfolding use_all add_definitions add_first_uses set_scope
      defined-agrees l h spans s a =
          let w = whole spans s a in
          record {
            fault = ap meaning d.fault ∙ a.fault;
            count =
                omega (
                  arith,
                  a.count,
                  d.recorded l h spans s w,
                  length-append s.definitions (index_definitions (sheet_at t) s.scope l statement (expr_by t rest row)),
                );
            whole = λ e. d.whole l h spans s w;
          }

      pub uses-defined : UsesVars t extras statement row rest p firsts work r firsts' work'
      uses-defined = record {
        runs = λ l h. record {
          grown = d.grown;
          agrees = λ spans s a.
              subst (Agree t spans r.progress firsts' work')
              (sym (done (gather_used_vars (sheet_at t) statement l (expr_by t rest row)) spans s a
              ∙ gather-defined (sheet_at t) statement l (expr_by t rest row) s (agree_sound t spans p firsts work s a fine)
              (found s.scope (whole spans s a).scope.sets).is))
              (defined-agrees l h spans s a);
        };
        names = λ l h spans s a b. d.names l h spans s (whole spans s a);
        recorded = λ l h spans s a b. d.recorded l h spans s (whole spans s a);
        sound-before = λ b. fine;
        comprs = c;
      }
