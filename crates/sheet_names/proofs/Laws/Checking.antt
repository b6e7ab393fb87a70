-- The loop of `check_names`.
use mathlib.Core.Path.{◌≡◌, refl, ap, ◌∙◌}
use mathlib.Core.Bool.{Bool, true, false, cond, ◌&&◌, and-false}
use mathlib.Core.List.{List, [], ◌∷◌}
use Prim.Native.Nat.{ℕ, suc, ◌+◌, ◌≤◌, ◌<◌}
use native.Mathlib.Numerals.{add-one}
use native.Mathlib.Omega.{arith}
use lib.ListN.{get_or}
use borrow.Author.Tests.{ne_eqb}
use Rattle.sheet.specs.Text.{newline}
use Rattle.sheet.specs.Inner.Lines.{after, line_at}
use Rattle.sheet.specs.Questions.{is_name, before, name_fault, form_fault, row_counts, sheet_names, names_fault}
use Rattle.sheet.specs.Form.{names_at, line_of, line_or}
use Rattle.sheet_names.specs.Inner.Names.{NameTo}
use Rattle.sheet_names.proofs.Laws.FirstSection.{NameLines, names-end, others, names-first, names-next, headed}

-- The first line at fault, or 0, of names from line n on, behind the name p.
unfoldable pub name_fault_line : ℕ → List ℕ → List (List ℕ) → ℕ
name_fault_line n p [] = 0
name_fault_line n p (l ∷ ls) = cond (is_name l && before p l) (name_fault_line (suc n) l ls) n

-- Row 1 stands in line 2.
name-line : (counts : List ℕ) (n : ℕ) (p : List ℕ) (ls : List (List ℕ)) → line_or counts names_at (name_fault (suc n) p ls) 0 ≡ name_fault_line (suc (suc n)) p ls
unfolding name_fault name_fault_line line_of
name-line counts n p [] = refl
name-line counts n p (l ∷ ls) = go (is_name l && before p l) (name-line counts (suc n) l ls)
  where
    go : (b : Bool) → line_or counts names_at (name_fault (suc (suc n)) l ls) 0 ≡ name_fault_line (suc (suc (suc n))) l ls
        → line_or counts names_at (cond b (name_fault (suc (suc n)) l ls) (suc n)) 0 ≡ cond b (name_fault_line (suc (suc (suc n))) l ls) (suc (suc n))
    go true h = h
    go false h = rw (ne_eqb (suc n) 0 (λ (z : suc n ≡ 0). omega arith)) (omega arith)

-- The names in front of a place are not at fault: those that follow decide. They start at line n, and the last one is `last`.
pub record Checking (s last : List ℕ) (at n : ℕ) : Type 0 where
  pub names : List (List ℕ)
  pub follow : NameLines s at names
  pub some : 0 < n
  pub few : n ≤ at
  pub is : names_fault s ≡ name_fault_line n last names

module _ (s : List ℕ) where
  -- The empty text stands before each name.
  pub checking_first : form_fault s ≡ 0 → Checking s [] 5 2
  unfolding names_fault
  checking_first z = record {
    names = _;
    follow = (headed s z).names;
    some = omega arith;
    few = omega arith;
    is = name-line (row_counts s) 0 [] (sheet_names s);
  }

  module _ {last : List ℕ} {at n : ℕ} (k : Checking s last at n) where
    pub checking_end : get_or s at 0 ≡ newline → names_fault s ≡ 0
    unfolding name_fault_line
    checking_end e = k.is ∙ ap (name_fault_line n last) (names-end k.follow e)

    module _ (ne : get_or s at 0 ≡ newline → ⊥) where
      -- What the next name decides.
      step : names_fault s ≡ name_fault_line n last (line_at s at ∷ others k.follow ne)
      step = k.is ∙ ap (name_fault_line n last) (names-first k.follow ne)

      pub checking_unmade : is_name (line_at s at) ≡ false → names_fault s ≡ n
      unfolding name_fault_line
      checking_unmade f = step ∙ rw f

      pub checking_unordered : before last (line_at s at) ≡ false → names_fault s ≡ n
      unfolding name_fault_line
      checking_unordered f = step ∙ rw (f, and-false (is_name (line_at s at)))

      pub checking_next : (next : ℕ) → NameTo s at next → before last (line_at s at) ≡ true → Checking s (line_at s at) next (n + 1)
      unfolding name_fault_line
      checking_next next g b = record {
        names = others k.follow ne;
        follow = names-next k.follow ne next (ap after g.ends.line);
        some = omega arith;
        few = omega (arith, k.few, g.ends.inside.0);
        is = step ∙ rw (g.is, b, add-one);
      }
