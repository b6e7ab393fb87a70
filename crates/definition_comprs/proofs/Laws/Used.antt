-- Laws of `Used`.
use mathlib.Core.Path.{◌≡◌, refl, sym, ap, ◌∙◌, subst}
use mathlib.Core.Bool.{Bool, true, false, ◌&&◌, ◌||◌}
use mathlib.Core.List.{List, [], ◌∷◌}
use Prim.Native.Nat.{ℕ, ◌+◌, ◌-◌, ◌<◌}
use Rattle.base.specs.Lists.{elem}
use Rattle.base.proofs.Laws.Lists.{elem-filter}
use Rattle.base.specs.Sets.{member}
use Rattle.names.specs.Inner.Sets.{Union}
use Rattle.names.specs.Inner.Names.{Names}
use Rattle.names_width.specs.declared.Width.{Width}
use Rattle.sheet.specs.declared.Row.{Row}
use Rattle.scope.specs.Trees.{Tree, row_of}
use Rattle.scope.specs.Scopes.{elements, owns}
use Rattle.definition.specs.States.{schedule_of, scope_in}
use Rattle.definition.specs.Comprs.{comprs_use}
use Rattle.definition_once.specs.Inner.OnceWay.{once_way}
use Rattle.scope_state.specs.declared.Scope.{Scope}
use Rattle.definition_walk.proofs.Laws.Adds.{adds_none, adds_then}
use Rattle.definition_comprs.specs.declared.taken.Taken.{Taken}
use Rattle.definition_comprs.specs.Inner.Takes.{TakenBy}
use Rattle.definition_comprs.specs.Inner.OwnInputs.{OwnInputs}
use Rattle.definition_comprs.proofs.Laws.OwnInputs.{elem-elements}
use Rattle.definition_comprs.specs.Inner.Used.{ComprStep, row_use, ComprsUsed}
use Rattle.definition_comprs.specs.Inner.Lists.{listed_at}
use Rattle.definition_comprs.proofs.Laws.Lists.{listed-end, listed-step}
use Rattle.scope_walk.specs.Inner.Exprs.{expr_by}
use native.Mathlib.Omega.{arith}
use lib.ListN.{length, get_or}

module _ (v : Width) (k : Scope) (work : List ℕ) where
  pub step-compr : (w : Row) (a : Names) (tk : Taken) → TakenBy v work w.third tk → (own : Names) → OwnInputs k tk.inputs own
      → (r : Names) → Union a.words own.words r.words → ComprStep v k work w a r
  step-compr w a tk by own owned r union s h stored =
      let takes = by s.run.schedules stored in
      let inputs = (scope_in (schedule_of s.run.schedules w.third)).inputs in
      record {
        has = λ x.
            union.has x
            ∙ ap (λ (m : Bool). member a.words x || m)
            (owned s.scope h x ∙ ap (λ (m : Bool). m && owns s.scope x) (sym (takes.inputs x) ∙ sym (elem-elements inputs takes.low x)))
            ∙ turned (member a.words x) (elem x (elements inputs)) (owns s.scope x)
            ∙ ap (λ (m : Bool). m || member a.words x) (sym (elem-filter (owns s.scope) x (elements inputs)));
      }
    where
      turned : (m i o : Bool) → (m || (i && o)) ≡ ((o && i) || m)
      turned true true true = refl
      turned true true false = refl
      turned true false true = refl
      turned true false false = refl
      turned false true true = refl
      turned false true false = refl
      turned false false true = refl
      turned false false false = refl

  -- ---- several

  pub used-none : (a : Names) → ComprsUsed v k work [] a a
  unfolding comprs_use
  used-none a sheet nested parents s h stored = adds_none a

  pub used-one : (e : Tree) (cs : List Tree) (w : Row) → row_of e ≡ w → (a s₀ b : Names) → ComprStep v k work w a s₀ → ComprsUsed v k work cs s₀ b
      → ComprsUsed v k work (e ∷ cs) a b
  unfolding comprs_use
  used-one e cs w is a s₀ b one others sheet nested parents s h stored =
      adds_then a s₀ b (row_use s (row_of e)) (comprs_use sheet (once_way sheet nested parents) cs s) (rw is (one s h stored)) (others sheet nested parents s h stored)

-- The loop over listed rows: what is used, once those from place `at` on are.
abbrev pub UsedOnwards : List ℕ → Width → Scope → List ℕ → List ℕ → Names → Names → ℕ → Type 0
UsedOnwards t v k work rows names used at =
    (b : Names) → ComprsUsed v k work (listed_at t rows at (length rows - at)) used b → ComprsUsed v k work (listed_at t rows 0 (length rows)) names b

module _ (t : List ℕ) (v : Width) (k : Scope) (work rows : List ℕ) (names : Names) where
  pub onwards_first : UsedOnwards t v k work rows names names 0
  onwards_first b h = let e : length rows - 0 ≡ length rows = omega arith in subst (λ (n : ℕ). ComprsUsed v k work (listed_at t rows 0 n) names b) e h

  pub onwards_next : (used : Names) (at : ℕ) → at < length rows → UsedOnwards t v k work rows names used at
      → (w : Row) → row_of (expr_by t false (get_or rows at 0)) ≡ w → (after : Names) → ComprStep v k work w used after
      → UsedOnwards t v k work rows names after (at + 1)
  onwards_next used at low onwards w is after step b h =
      onwards b (subst (λ (cs : List Tree). ComprsUsed v k work cs used b) (sym (listed-step t rows at (length rows) (omega arith) (λ e. omega arith)))
      (used-one v k work (expr_by t false (get_or rows at 0)) (listed_at t rows (at + 1) (length rows - (at + 1))) w is used after b step h))

  pub onwards_last : (used : Names) (at : ℕ) → at ≡ length rows → UsedOnwards t v k work rows names used at
      → ComprsUsed v k work (listed_at t rows 0 (length rows)) names used
  onwards_last used at end onwards =
      onwards used (subst (λ (cs : List Tree). ComprsUsed v k work cs used used) (sym (listed-end t rows at (length rows) end)) (used-none v k work used))
