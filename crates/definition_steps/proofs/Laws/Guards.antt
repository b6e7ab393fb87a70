-- A state with a fault stays: no step is done at it.
use mathlib.Core.Path.{◌≡◌, refl, sym, ap, ◌∙◌}
use mathlib.Core.Bool.{Bool, false}
use mathlib.Core.List.{List, [], ◌∷◌, ◌++◌, foldl}
use mathlib.Core.Logic.{◌⊎◌, inl, inr, ⊎_elim}
use Prim.Native.Nat.{ℕ}
use native.Mathlib.Omega.{arith}
use Rattle.sheet.specs.Sheet.{Sheet}
use Rattle.scope.specs.Trees.{Tree}
use Rattle.scope.specs.Traverse.{comprs}
use Rattle.definition.specs.Uses.{index_definitions}
use Rattle.definition.specs.States.{Fault, sound, undefined, used_before, lengths, index_variable, State, fail, if_sound, in_turn, Way}
use Rattle.definition.specs.Using.{gather_used_vars}
use Rattle.definition.specs.Comprs.{Mods, propagate, use_compr, process_compr, process_comprs}
use Rattle.definition.specs.Exprs.{Pairing, pair, mismatch, assign_one_way, assign_pairing}
use Rattle.definition.specs.SomeIn.{fail_if_some, process_non_var}
use Rattle.definition.specs.Queries.{output_scope, output_compr, analyze_output_expr}
use Rattle.definition_room.proofs.Laws.Sound.{Sound}
use Rattle.definition_state.specs.Inner.Frames.{guarded}

-- There is no fault, or there is one.
pub fault_cases : (f : Fault) → (f ≡ sound) ⊎ (f ≡ sound → ⊥)
fault_cases sound = inl refl
fault_cases (undefined l c) = inr (λ e. let z : ◌≡◌ {A = ℕ} 0 1 = cc in omega arith)
fault_cases (used_before l c) = inr (λ e. let z : ◌≡◌ {A = ℕ} 0 1 = cc in omega arith)
fault_cases (lengths l c) = inr (λ e. let z : ◌≡◌ {A = ℕ} 0 1 = cc in omega arith)
fault_cases index_variable = inr (λ e. let z : ◌≡◌ {A = ℕ} 0 1 = cc in omega arith)

-- ---- at a state without a fault

pub guarded-sound : (f : State → State) (s : State) → Sound s → guarded f s ≡ f s
guarded-sound f s h = rw h

-- ---- at a state with a fault

module _ (s : State) (faulty : s.run.fault ≡ sound → ⊥) where
  pub guarded-stays : (f : State → State) → guarded f s ≡ s
  guarded-stays f = go s.run.fault faulty
    where
      go : (x : Fault) → (x ≡ sound → ⊥) → if_sound x f s ≡ s
      go sound n = absurd (n refl)
      go (undefined l c) n = refl
      go (used_before l c) n = refl
      go (lengths l c) n = refl
      go index_variable n = refl

  pub turn-stays : (steps : List (State → State)) → in_turn steps s ≡ s
  turn-stays [] = refl
  turn-stays (f ∷ steps) = ap (in_turn steps) (guarded-stays f) ∙ turn-stays steps

-- Steps that stay there, one for each element.
pub fold_stays : {A : Type 0} (s : State) (g : State → A → State) → ((x : A) → g s x ≡ s) → (l : List A) → foldl g s l ≡ s
fold_stays s g h [] = refl
fold_stays s g h (x ∷ l) = ap (λ (u : State). foldl g u l) (h x) ∙ fold_stays s g h l

-- So where steps end without a fault, there was none before.
pub was_sound : (s t : State) → ((s.run.fault ≡ sound → ⊥) → t ≡ s) → Sound t → Sound s
was_sound s t stays h =
    ⊎_elim (λ (e : Sound s). e) (λ (n : Sound s → ⊥). absurd (n (ap (λ (u : State). u.run.fault) (sym (stays n)) ∙ h))) (fault_cases s.run.fault)

module _ (sheet : Sheet) (way : Way) (s : State) where
  module _ (faulty : s.run.fault ≡ sound → ⊥) where
    pub compr-stays : (e : Tree) → process_compr sheet way s e ≡ s
    unfolding process_compr
    compr-stays e = turn-stays s faulty (way.compr s.scope e ∷ (λ t. propagate sheet way t.scope e t) ∷ use_compr sheet way e ∷ [])

    pub comprs_stay : (cs : List Tree) → process_comprs sheet way cs s ≡ s
    unfolding process_comprs
    comprs_stay cs = fold_stays s (process_compr sheet way) compr-stays cs

    pub pairing_stays : (i : ℕ) (m : Mods) (check : Bool) (p : Pairing) → assign_pairing sheet way i m check s p ≡ s
    unfolding assign_pairing
    pairing_stays i m check (pair lhs rhs) =
        turn-stays s faulty (assign_one_way sheet way i m check lhs rhs ∷ assign_one_way sheet way i m false rhs lhs ∷ [])
    pairing_stays i m check (mismatch v) = turn-stays s faulty (fail (lengths v.line v.col) ∷ [])

    pub pairings_stay : (i : ℕ) (m : Mods) (check : Bool) (l : List Pairing) → foldl (assign_pairing sheet way i m check) s l ≡ s
    pairings_stay i m check l = fold_stays s (assign_pairing sheet way i m check) (pairing_stays i m check) l

    pub non_var_stays : (i : ℕ) (m : Mods) (e : Tree) → process_non_var sheet way i m s e ≡ s
    unfolding process_non_var
    non_var_stays i m e =
        turn-stays s faulty (gather_used_vars sheet i [] e
        ∷ (λ t. fail_if_some (index_definitions sheet t.scope [] i e) t)
        ∷ process_comprs sheet way (comprs e ++ m.comprs)
        ∷ [])

    pub non_vars_stay : (i : ℕ) (m : Mods) (l : List Tree) → foldl (process_non_var sheet way i m) s l ≡ s
    non_vars_stay i m l = fold_stays s (process_non_var sheet way i m) (non_var_stays i m) l

    pub output_stays : (e : Tree) → output_compr sheet way s e ≡ s
    unfolding output_compr
    output_stays e = turn-stays s faulty (way.compr (output_scope s.scope) e ∷ (λ t. propagate sheet way (output_scope t.scope) e t) ∷ [])

    pub output_expr_stays : (t : Tree) → analyze_output_expr sheet way s t ≡ s
    unfolding analyze_output_expr
    output_expr_stays t = fold_stays s (output_compr sheet way) output_stays (comprs t)

    pub outputs_stay : (outputs : List Tree) → foldl (analyze_output_expr sheet way) s outputs ≡ s
    outputs_stay outputs = fold_stays s (analyze_output_expr sheet way) output_expr_stays outputs

  -- ---- and so, where they end without a fault

  pub comprs-sound : (cs : List Tree) → Sound (process_comprs sheet way cs s) → Sound s
  comprs-sound cs = was_sound s (process_comprs sheet way cs s) (λ n. comprs_stay n cs)

  pub outputs-sound : (outputs : List Tree) → Sound (foldl (analyze_output_expr sheet way) s outputs) → Sound s
  outputs-sound outputs = was_sound s (foldl (analyze_output_expr sheet way) s outputs) (λ n. outputs_stay n outputs)
