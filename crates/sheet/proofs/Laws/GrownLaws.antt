-- A list whose elements follow from those before: what stands where.
use mathlib.Core.Path.{◌≡◌, refl, sym, ap, ◌∙◌}
use mathlib.Core.List.{List, [], ◌∷◌, ◌++◌}
use Prim.Native.Nat.{ℕ, zero, suc, ◌+◌, ◌-◌, ◌≤◌}
use native.Mathlib.Omega.{arith}
use lib.ListN.{length, get_or, length-append, get_or-append}
use lib.Seq.{get_or-append-add}
use Rattle.sheet.specs.Nesting.{grown}

module _ (f : List ℕ → ℕ → ℕ) where
  pub grown-length : (n : ℕ) → length (grown f n) ≡ suc n
  unfolding grown
  grown-length zero = refl
  grown-length (suc n) = length-append (grown f n) (f (grown f n) (suc n) ∷ []) ∙ omega (arith, grown-length n)

  -- What stands in front stays.
  pub grown_keeps : (n m j : ℕ) → j ≤ n → get_or (grown f (n + m)) j 0 ≡ get_or (grown f n) j 0
  unfolding grown
  grown_keeps n zero j h = let e : n + 0 ≡ n = omega arith in ap (λ (k : ℕ). get_or (grown f k) j 0) e
  grown_keeps n (suc m) j h =
      let e : n + suc m ≡ suc (n + m) = omega arith in
      ap (λ (k : ℕ). get_or (grown f k) j 0) e
      ∙ get_or-append (grown f (n + m)) (f (grown f (n + m)) (suc (n + m)) ∷ []) 0 j (omega (arith, grown-length (n + m)))
      ∙ grown_keeps n m j h

  grown-last : (n : ℕ) → get_or (grown f (suc n)) (suc n) 0 ≡ f (grown f n) (suc n)
  unfolding grown
  grown-last n =
      let e : suc n ≡ length (grown f n) + 0 = omega (arith, grown-length n) in
      ap (λ (k : ℕ). get_or (grown f n ++ (f (grown f n) (suc n) ∷ [])) k 0) e
      ∙ get_or-append-add (grown f n) (f (grown f n) (suc n) ∷ []) 0 0

  -- Element suc k follows from those up to k.
  pub grown-at : (n k : ℕ) → suc k ≤ n → get_or (grown f n) (suc k) 0 ≡ f (grown f k) (suc k)
  grown-at n k h =
      let e : n ≡ suc k + (n - suc k) = omega arith in
      ap (λ (m : ℕ). get_or (grown f m) (suc k) 0) e ∙ grown_keeps (suc k) (n - suc k) (suc k) (omega arith) ∙ grown-last k

  pub grown-before : (n k j : ℕ) → k ≤ n → j ≤ k → get_or (grown f k) j 0 ≡ get_or (grown f n) j 0
  grown-before n k j h l =
      let e : n ≡ k + (n - k) = omega arith in
      sym (ap (λ (m : ℕ). get_or (grown f m) j 0) e ∙ grown_keeps k (n - k) j l)
