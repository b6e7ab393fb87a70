-- The ways out of `ask`: the first question that fails, or none.
use mathlib.Core.Path.{◌≡◌, refl, sym, ap, ◌∙◌}
use mathlib.Core.List.{List}
use Prim.Native.Nat.{ℕ, ◌≤◌, ◌<◌}
use native.Mathlib.Omega.{arith}
use lib.ListN.{length}
use borrow.Author.Tests.{lt-leb, le-leb, ne_eqb}
use Rattle.std.specs.Prelude.{Result, Ok, Err, IsErrAnd, MatchResult}
use Rattle.std.proofs.lemmas.Result.{err_from_is_err_and}
use Rattle.base.specs.Limits.{Limits}
use Rattle.base.proofs.Laws.Truth.{not-both}
use Rattle.sheet.specs.Questions.{form_fault, names_fault, counts_fault}
use Rattle.sheet.specs.Inner.Answers.{unless_fault}
use Rattle.sheet.proofs.Laws.AnswerLaws.{unless-passed, unless-failed}
use Rattle.sheet.specs.declared.Refusal.{Refusal}
use Rattle.sheet.specs.declared.Refusal.TheVariants.{TooLong, BadForm, BadName, BadCount, BadField}
use Rattle.sheet.specs.Verdict.{Outcome, fields_fault, asked, read_tables}
use Rattle.sheet_read.specs.Inner.Asked.{Asked}

-- ---- an answer r, whose line `map_err` makes a refusal

abbrev pub Mapped : {T : Type 0} → (ℕ → Refusal) → Result T ℕ → Result T Refusal → Type 0
Mapped bad r m = MatchResult r (λ x. m ≡ Ok x) (λ line. IsErrAnd m (λ y. y ≡ bad line))

module _ {T : Type 0} (bad : ℕ → Refusal) where
  pub mapped-ok : (r : Result T ℕ) (x : T) → Mapped bad r (Ok x) → r ≡ Ok x
  mapped-ok (Ok y) x h = cc
  mapped-ok (Err line) x h = absurd h

  pub mapped-err : (r : Result T ℕ) (d : Refusal) → Mapped bad r (Err d) → (line : ℕ) × (r ≡ Err line) × (d ≡ bad line)
  mapped-err (Ok y) d h = absurd cc
  mapped-err (Err line) d h = (line, refl, h)

  -- What a `?` hands out of it.
  pub mapped-out : (r : Result T ℕ) (d : Refusal) → Mapped bad r (Err d) → (out : Outcome) → IsErrAnd out (λ y. y ≡ d)
      → (line : ℕ) × (r ≡ Err line) × (out ≡ Err (bad line))
  mapped-out r d h out o =
      let f = mapped-err r d h in
      let p = err_from_is_err_and out o in
      (f.0, f.1, p.1 ∙ ap Err (p.2 ∙ f.2))

-- ---- each way out

module _ (lim : Limits) (s e : List ℕ) where
  refused : (r : Refusal) → Err r ≡ asked lim s → Asked lim s (Err r) e
  refused r is = record { came-to = is; tabled = λ read. absurd (not-both read refl) }

  pub too_long_lem : 32768 < length s → Asked lim s (Err TooLong) e
  unfolding asked
  too_long_lem h = refused TooLong (sym (rw (lt-leb (length s) 32768 h)))

  module _ (short : length s ≤ 32768) where
    pub bad-form : (l : ℕ) → form_fault s ≡ l → 0 < l → Asked lim s (Err (BadForm l)) e
    unfolding asked
    bad-form l is some =
        refused (BadForm l) (sym (rw (le-leb (length s) 32768 short, is, ne_eqb l 0 (λ z. omega (arith, z)))))

    module _ (formed : form_fault s ≡ 0) where
      pub bad-name : (l : ℕ) → names_fault s ≡ l → 0 < l → Asked lim s (Err (BadName l)) e
      unfolding asked
      bad-name l is some =
          refused (BadName l) (sym (rw (le-leb (length s) 32768 short, formed, is, ne_eqb l 0 (λ z. omega (arith, z)))))

      module _ (named : names_fault s ≡ 0) where
        pub bad-count : (l : ℕ) → counts_fault lim s ≡ l → 0 < l → Asked lim s (Err (BadCount l)) e
        unfolding asked
        bad-count l is some =
            refused (BadCount l) (sym (rw (le-leb (length s) 32768 short, formed, named, is, ne_eqb l 0 (λ z. omega (arith, z)))))

        module _ (counted : counts_fault lim s ≡ 0) where
          bad-field : (l : ℕ) → fields_fault s ≡ l → 0 < l → Asked lim s (Err (BadField l)) e
          unfolding asked
          bad-field l is some =
              refused (BadField l) (sym (rw (le-leb (length s) 32768 short, formed, named, counted, is, ne_eqb l 0 (λ z. omega (arith, z)))))

          all_read : fields_fault s ≡ 0 → e ≡ read_tables s → Asked lim s (Ok tt) e
          unfolding asked
          all_read held is = record {
            came-to = sym (rw (le-leb (length s) 32768 short, formed, named, counted, held));
            tabled = λ read. is;
          }

          -- The last question decides.
          pub fields-asked : (r : Result Unit ℕ) (m : Outcome) → Mapped BadField r m → r ≡ unless_fault (fields_fault s) → e ≡ read_tables s
              → Asked lim s m e
          fields-asked (Ok x) m h is tabled = rw h (all_read (unless-passed (fields_fault s) is) tabled)
          fields-asked (Err line) m h is tabled =
              let p = err_from_is_err_and m h in
              let f = unless-failed (fields_fault s) line is in
              rw (p.1, p.2) (bad-field line f.0 f.1)
