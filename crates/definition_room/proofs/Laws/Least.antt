-- Where the statements of a query end without a fault, each of them has a definition.
use mathlib.Core.Path.{◌≡◌, refl, sym, subst}
use mathlib.Core.List.{List, [], ◌∷◌, foldl, Memᴰ}
use mathlib.Core.Logic.{◌⊎◌, inl, inr}
use Prim.Native.Nat.{ℕ, suc, ◌+◌, ◌≤◌, ◌<◌}
use native.Mathlib.Omega.{arith}
use lib.ListN.{length}
use Rattle.base.proofs.Laws.Truth.{eq_cases}
use Rattle.order.specs.Definitions.{Definition, of_statement}
use Rattle.order.proofs.Laws.Statements.{statement_mem}
use Rattle.sheet.specs.Sheet.{Sheet}
use Rattle.scope.specs.Statements.{Stmt}
use Rattle.scope.specs.Scopes.{Scope}
use Rattle.definition.specs.States.{State, in_turn, Way}
use Rattle.definition.specs.Using.{gather_used_vars, unless_some, at_least_one}
use Rattle.definition.specs.Queries.{mods_of, process_literal, process_stmt, process_stmts}
use Rattle.definition_once.specs.Inner.OnceWay.{Nested, once_way}
use Rattle.definition_room.specs.Inner.Adds.{Recorded}
use Rattle.definition_room.proofs.Laws.Recording.{recorded-stays, recorded-one}
use Rattle.definition_room.proofs.Laws.Comprs.{KeepsFit}
use Rattle.definition_room.proofs.Laws.Statements.{adds_process_stmts}
use Rattle.definition_room.proofs.Laws.Sound.{Sound, sound-before, sound-step}

-- `at_least_one` does what it says.
recorded_least : (i : ℕ) (s : State) → Recorded i (at_least_one i s).definitions
unfolding at_least_one
recorded_least i s = go (of_statement i s.definitions) refl
  where
    go : (l : List Definition) → of_statement i s.definitions ≡ l → Recorded i (unless_some l i s).definitions
    go [] e = recorded-one i 0 [] s
    go (d ∷ l) e =
        let m = statement_mem i s.definitions (subst (λ (k : List Definition). Memᴰ d k) (sym e) (Memᴰ.head refl)) in
        record { one = d; listed = m.0; statement = m.1 }

module _ (sheet : Sheet) (nested : Nested) (parents : List Scope) where
  abbrev way : Way
  way = once_way sheet nested parents

  recorded_stmt : (i : ℕ) (st : Stmt) (s : State) → Sound (process_stmt sheet way i st s)
      → Recorded i (process_stmt sheet way i st s).definitions
  unfolding process_stmt
  recorded_stmt i st s h =
      sound-step (λ (u : State). Recorded i u.definitions) (at_least_one i) (λ u k. recorded_least i u)
      (in_turn ((λ t. foldl (λ u e. in_turn (gather_used_vars sheet i [] e ∷ []) u) t st.with_mods)
      ∷ (λ t. process_literal sheet way i (mods_of sheet t.scope st.with_mods) st.literal t) ∷ []) s) h

  stmts_sound : (stmts : List Stmt) (i : ℕ) (s : State) → Sound (process_stmts sheet way i stmts s) → Sound s
  unfolding process_stmts
  stmts_sound [] i s h = h
  stmts_sound (st ∷ stmts) i s h =
      let t = in_turn (process_stmt sheet way i st ∷ []) s in
      sound-before (process_stmt sheet way i st) s (stmts_sound stmts (suc i) t h)

  -- Each of the statements from i on has a definition.
  pub recorded_stmts : KeepsFit sheet nested → (stmts : List Stmt) (i : ℕ) (s : State) → Sound (process_stmts sheet way i stmts s)
      → (j : ℕ) → i ≤ j → j < i + length stmts → Recorded j (process_stmts sheet way i stmts s).definitions
  unfolding process_stmts
  recorded_stmts keeps [] i s h j a b = absurd (omega arith)
  recorded_stmts keeps (st ∷ stmts) i s h j a b =
      go (eq_cases i j) (recorded_stmts keeps stmts (suc i) (in_turn (process_stmt sheet way i st ∷ []) s) h j)
    where
      after : State
      after = in_turn (process_stmt sheet way i st ∷ []) s

      this : Recorded i after.definitions
      this =
          sound-step (λ (u : State). Recorded i u.definitions) (process_stmt sheet way i st) (recorded_stmt i st) s
          (stmts_sound stmts (suc i) after h)

      go : (i ≡ j) ⊎ (i ≡ j → ⊥)
          → (suc i ≤ j → j < suc i + length stmts → Recorded j (process_stmts sheet way (suc i) stmts after).definitions)
          → Recorded j (process_stmts sheet way (suc i) stmts after).definitions
      go (inl e) rest =
          recorded-stays sheet (adds_process_stmts sheet nested parents keeps stmts (suc i) after)
          (subst (λ (k : ℕ). Recorded k after.definitions) e this)
      go (inr ne) rest = rest (omega arith) (omega arith)
