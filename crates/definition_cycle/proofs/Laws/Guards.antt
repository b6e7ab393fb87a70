-- What a guarded call did: where there is no row none is made, and all stays as it was.
use mathlib.Core.Path.{◌≡◌, refl}
use mathlib.Core.List.{List}
use mathlib.Core.Logic.{◌⊎◌}
use Prim.Native.Nat.{ℕ}
use lib.ListN.{length}
use Rattle.scope_walk.proofs.Laws.Walking.{past_guard}

-- A walk that writes two lists keeps their lengths.
abbrev pub KeepsLengths : {S : Type 0} → (S → List ℕ → List ℕ → S → List ℕ → List ℕ → Type 0) → S → List ℕ → List ℕ → S → List ℕ → List ℕ → Type 0
KeepsLengths W s fs w r gs v = W s fs w r gs v × (length gs ≡ length fs) × (length v ≡ length w)

-- From the two ways that lead past the guard: the call was made, or there is no row and nothing changed.
pub guarded_lists : {S A B : Type 0} (W : ℕ → S → List ℕ → List ℕ → S → List ℕ → List ℕ → Type 0)
    → ((s : S) (fs w : List ℕ) → W 0 s fs w s fs w) → (row : ℕ) (s : S) (fs w : List ℕ) (r : S) (gs v : List ℕ)
    → (A → (q : S) × (hs : List ℕ) × (u : List ℕ) × KeepsLengths (W row) s fs w q hs u × (gs ≡ hs) × (v ≡ u) × (r ≡ q))
    → (B → (row ≡ 0) × (gs ≡ fs) × (v ≡ w) × (r ≡ s)) → A ⊎ B → KeepsLengths (W row) s fs w r gs v
guarded_lists {S} W none row s fs w r gs v took left =
    past_guard {S = S × List ℕ × List ℕ} (λ n a b. KeepsLengths (W n) a.0 a.1 a.2 b.0 b.1 b.2)
    (λ a. (none a.0 a.1 a.2, refl, refl)) row (s, fs, w) (r, gs, v)
    (λ x. let y = took x in ((y.0, y.1, y.2), y.3, λ i. (y.6 i, y.4 i, y.5 i)))
    (λ x. let y = left x in (y.0, λ i. (y.3 i, y.1 i, y.2 i)))
