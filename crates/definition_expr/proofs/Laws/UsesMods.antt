-- Laws of `UsesMods`.
use mathlib.Core.Path.{◌≡◌, refl, sym, ap, subst}
use mathlib.Core.Bool.{true, false}
use mathlib.Core.List.{List, [], ◌∷◌}
use Prim.Native.Nat.{ℕ, suc, ◌≤◌}
use native.Mathlib.Omega.{arith}
use Rattle.names.specs.Inner.Sets.{Empty, Union}
use Rattle.names.specs.Inner.Names.{Names}
use Rattle.base.specs.Lists.{concat_map}
use Rattle.sheet.specs.Inner.Sheet.{row_at}
use Rattle.scope.specs.Trees.{Tree}
use Rattle.definition.specs.Uses.{used_vars}
use Rattle.definition.specs.States.{State}
use Rattle.definition.specs.Using.{gather_used_vars}
use Rattle.definition_room.specs.Inner.Sizes.{total}
use Rattle.definition_room.specs.Inner.Leaves.{bracket_vars}
use Rattle.definition_room.proofs.Laws.Adds.{step_if}
use Rattle.definition_room.proofs.Laws.Using.{adds_gather_used_vars}
use Rattle.scope_walk.specs.Inner.Sheets.{sheet_at, Accepted, expr_count}
use Rattle.scope_walk.specs.Inner.Exprs.{expr_by}
use Rattle.scope_state.specs.Inner.Chains.{chain_at}
use Rattle.scope_state.proofs.Laws.Chains.{chain-none, chain-row}
use Rattle.definition_walk.specs.Inner.Own.{Holds}
use Rattle.definition_walk.specs.Inner.Adds.{Adds}
use Rattle.definition_walk.proofs.Laws.Adds.{adds_none, adds_then, adds_union}
use Rattle.definition_state.specs.declared.Progress.{Progress}
use Rattle.definition_state.specs.Inner.Frames.{guarded, Runs, Ready}
use Rattle.definition_state.proofs.Laws.Frames.{runs_then, runs_none}
use Rattle.definition_state.proofs.Laws.Steps.{ready_less, ready-next}
use Rattle.definition_expr.specs.declared.Using.{Using}
use Rattle.definition_expr.specs.Inner.ComprRows.{joining}
use Rattle.definition_expr.proofs.Laws.ComprRows.{comprs-here, comprs_joined}
use Rattle.definition_expr.proofs.Laws.Gathers.{used-after}
use Rattle.definition_expr.specs.Inner.Gathers.{use_each}
use Rattle.definition_expr.specs.Inner.Defined.{ListedExtras}
use Rattle.definition_expr.specs.Inner.UsesVars.{UsesVars}
use Rattle.definition_expr.specs.Inner.UsesMods.{UsesMods, UsesEach}

-- No names are the empty list.
pub holds-none : (e : Names) → Empty e.words → Holds e []
holds-none e clear = record { has = λ x. sym (clear.has x) }

pub listed-none : (e : Names) → Empty e.words → ListedExtras e
listed-none e clear = record { list = []; holds = holds-none e clear }

module _ (t : List ℕ) (statement : ℕ) where
  module _ (ok : Accepted t) (row : ℕ) where
    pub mods-none : row ≡ 0 → (p : Progress) (before : Names) (firsts work : List ℕ)
        → UsesMods t statement row p before firsts work (record { progress = p; names = before; comprs = 0 }) firsts work
    mods-none z p before firsts work = rw z (record {
      each = rw (chain-none t ok) (record {
        runs = runs_none t (λ s. s) (λ s. refl) p firsts work;
        names = λ spans s a fine. adds_none before;
        sound-before = λ fine. fine;
      });
      comprs = comprs-here t true 0;
    })

    module _ (some : row ≡ 0 → ⊥) (high : row ≤ expr_count t) (p : Progress) (firsts work : List ℕ)
        (ready : Ready t p firsts work (total bracket_vars (chain_at t row))) where
      -- ---- room for the first expression and for the others

      parts : total bracket_vars (chain_at t row) ≡ total bracket_vars (expr_by t false row ∷ chain_at t (row_at t row).next)
      parts = ap (total bracket_vars) (chain-row t ok row some high)

      pub here-ready : Ready t p firsts work (bracket_vars (expr_by t false row))
      here-ready = ready_less t p firsts work _ _ (omega (arith, parts)) ready

      module _ (e : Names) (clear : Empty e.words) (u : Using) (firsts₁ work₁ : List ℕ)
          (here : UsesVars t e statement row false p firsts work u firsts₁ work₁) (next : ℕ) (is : next ≡ (row_at t row).next) where
        abbrev step : State → State
        step = gather_used_vars (sheet_at t) statement [] (expr_by t false row)

        here-runs : Runs t (guarded step) p firsts work u.progress firsts₁ work₁
        here-runs = here.runs [] (holds-none e clear)

        pub next-ready : Ready t u.progress firsts₁ work₁ (total bracket_vars (chain_at t next))
        next-ready =
            ready-next t (suc statement) (bracket_vars (expr_by t false row)) (guarded step)
            (λ s. step_if (sheet_at t) step (adds_gather_used_vars (sheet_at t) statement [] (expr_by t false row)) s.run.fault s)
            p u.progress firsts firsts₁ work work₁ here-runs (total bracket_vars (chain_at t row)) (total bracket_vars (chain_at t next))
            (omega (arith, parts, ap (λ (n : ℕ). total bracket_vars (chain_at t n)) is)) ready

        -- ---- and what they do together

        module _ (before all : Names) (union : Union before.words u.names.words all.words) (r : Using) (firsts₂ work₂ : List ℕ)
            (others : UsesMods t statement next u.progress all firsts₁ work₁ r firsts₂ work₂) (q : Using) (joined : q ≡ joining r u.comprs row) where
          together : UsesEach t statement (expr_by t false row ∷ chain_at t next) p before firsts work (joining r u.comprs row) firsts₂ work₂
          together = record {
            runs =
                runs_then t (guarded step) (use_each (sheet_at t) statement (chain_at t next)) p u.progress r.progress firsts firsts₁ firsts₂
                work work₁ work₂ here-runs others.each.runs;
            names = λ spans s a fine.
                adds_then before all r.names (used_vars (sheet_at t) s.scope [] (expr_by t false row)) _
                (adds_union before before u.names all [] _ (adds_none before)
                (here.names [] (holds-none e clear) spans s a (others.each.sound-before fine)) union)
                (subst (λ (f : Tree → List ℕ). Adds all (concat_map f (chain_at t next)) r.names)
                (used-after (sheet_at t) statement [] (expr_by t false row) s [])
                (others.each.names spans (guarded step s) (here-runs.agrees spans s a) fine));
            sound-before = λ fine. here.sound-before (others.each.sound-before fine);
          }

          pub mods-row : UsesMods t statement row p before firsts work q firsts₂ work₂
          mods-row = subst (λ (v : Using). UsesMods t statement row p before firsts work v firsts₂ work₂) (sym joined) (record {
            each =
                subst (λ (es : List Tree). UsesEach t statement es p before firsts work (joining r u.comprs row) firsts₂ work₂)
                (sym (subst (λ (n : ℕ). chain_at t row ≡ expr_by t false row ∷ chain_at t n) (sym is) (chain-row t ok row some high))) together;
            comprs = comprs_joined t ok row some high next is u.comprs r.comprs here.comprs others.comprs;
          })
