-- Laws of `Settled`.
use mathlib.Core.Path.{◌≡◌, refl, sym, ap, ◌∙◌}
use mathlib.Core.Bool.{Bool, true}
use mathlib.Core.List.{List, [], ◌∷◌, ◌++◌, append_assoc, append-nil, foldl, foldl-append}
use Rattle.base.specs.Lists.{concat_map}
use Rattle.original.specs.Inner.Settled.{Settled}

module _ {S E : Type 0} (step : S → E → S) where
  -- So elements that were all taken before change nothing.
  pub absorb : (Settled step) → (k l : List E) (s : S) → foldl step (foldl step s (k ++ l)) k ≡ foldl step s (k ++ l)
  absorb st [] l s = refl
  absorb st (e ∷ k) l s = ap (λ (t : S). foldl step t k) (st s e (k ++ l)) ∙ absorb st k l (step s e)

  -- The elements k before each part, and once more at the end, are k once and then the parts.
  pub repeats : {X : Type 0} → (Settled step) → (k : List E) (d : X → List E) (xs : List X) (s : S)
      → foldl step s (concat_map (λ x. k ++ d x) xs ++ k) ≡ foldl step s (k ++ concat_map d xs)
  repeats st k d [] s = ap (foldl step s) (sym (append-nil k))
  repeats st k d (x ∷ xs) s =
      ap (foldl step s) (append_assoc (k ++ d x) (concat_map (λ y. k ++ d y) xs) k)
      ∙ foldl-append step s (k ++ d x) (concat_map (λ y. k ++ d y) xs ++ k)
      ∙ repeats st k d xs (foldl step s (k ++ d x))
      ∙ foldl-append step (foldl step s (k ++ d x)) k (concat_map d xs)
      ∙ ap (λ (t : S). foldl step t (concat_map d xs)) (absorb st k (d x) s)
      ∙ sym (foldl-append step s (k ++ d x) (concat_map d xs))
      ∙ ap (foldl step s) (append_assoc k (d x) (concat_map d xs))

  -- What an element leaves a mark of, which later ones keep, and which makes it change nothing, is settled.
  module _ (Mark : E → S → Bool)
      (left : (s : S) (e : E) → Mark e (step s e) ≡ true)
      (kept : (s : S) (e d : E) → Mark e s ≡ true → Mark e (step s d) ≡ true)
      (still : (s : S) (e : E) → Mark e s ≡ true → step s e ≡ s) where
    all-kept : (l : List E) (s : S) (e : E) → Mark e s ≡ true → Mark e (foldl step s l) ≡ true
    all-kept [] s e h = h
    all-kept (d ∷ l) s e h = all-kept l (step s d) e (kept s e d h)

    -- So it is.
    pub settle : (Settled step)
    settle s e l = still (foldl step (step s e) l) e (all-kept l (step s e) e (left s e))

-- ---- elements that each give some of another kind

module _ {S E F : Type 0} (step : S → E → S) (g : F → List E) where
  -- Taking all that elements give is taking what each gives, in turn.
  pub foldl_concat_map : (s : S) (l : List F) → foldl step s (concat_map g l) ≡ foldl (λ t x. foldl step t (g x)) s l
  foldl_concat_map s [] = refl
  foldl_concat_map s (x ∷ l) = foldl-append step s (g x) (concat_map g l) ∙ foldl_concat_map (foldl step s (g x)) l

  -- What takes all that an element gives is settled if what takes them one by one is.
  pub settled-parts : Settled step → Settled (λ (t : S) (x : F). foldl step t (g x))
  settled-parts st s x l =
      let e : foldl (λ t y. foldl step t (g y)) (foldl step s (g x)) l ≡ foldl step s (g x ++ concat_map g l) =
      sym (foldl_concat_map (foldl step s (g x)) l) ∙ sym (foldl-append step s (g x) (concat_map g l)) in
      ap (λ (t : S). foldl step t (g x)) e ∙ absorb step st (g x) (concat_map g l) s ∙ sym e
