-- Laws of `Relisting`.
use mathlib.Core.Path.{◌≡◌, sym, ap, ◌∙◌}
use mathlib.Core.Bool.{true}
use mathlib.Core.List.{List, Memᴰ}
use Prim.Native.Nat.{ℕ}
use Rattle.base.proofs.Laws.Truth.{bool_ext, and_intro, and_left, and_right}
use Rattle.base.specs.Lists.{elem}
use Rattle.base.proofs.Laws.Lists.{all-elem, elem-all}
use Rattle.order.proofs.Laws.Reach.{taken_reach, reach_taken}
use Rattle.order.proofs.Laws.Embedding.{Into, reach_into}
use Rattle.order.specs.Definitions.{Definition, of_statement, some, defines, ready, plain_walk, WalkEnded}
use Rattle.order.proofs.Laws.Statements.{mem_statement, statement_mem, mem_some, some_mem, by-defines, defines-by}
use Rattle.order.proofs.Laws.Resolving.{ready_mono, Renamed, resolves_renamed}
use Rattle.order.specs.Relisting.{Bijection, Permutes, Moved, Relisted}

-- ---- back again

abbrev pub inverse : Bijection → Bijection
inverse π = record { to = π.from; from = π.to; from-to = π.to-from; to-from = π.from-to }

pub permutes_back : {n : ℕ} {π : Bijection} → Permutes n π → Permutes n (inverse π)
permutes_back p = record { below = p.below-back; below-back = p.below }

moved_back : (π ρ : Bijection) {d e : Definition} → Moved π.to ρ.to d e → Moved π.from ρ.from e d
moved_back π ρ {d} {e} m = record {
  statement = sym (π.from-to d.statement) ∙ ap π.from (sym m.statement);
  var = sym (ρ.from-to d.var) ∙ ap ρ.from (sym m.var);
  used = λ x. sym (m.used (ρ.from x)) ∙ ap (λ (y : ℕ). elem y e.used) (ρ.to-from x);
}

pub relisted_back : (π ρ : Bijection) {defs defs' : List Definition} → Relisted π.to ρ.to defs defs'
    → Relisted π.from ρ.from defs' defs
relisted_back π ρ r = record {
  there = λ e m. let d = r.only e m in (d.0, d.1, moved_back π ρ d.2);
  only = λ d m. let e = r.there d m in (e.0, e.1, moved_back π ρ e.2);
}

-- ---- what is reached moves along

-- A moved definition has its names renamed.
moved_renamed : (π ρ : Bijection) {d e : Definition} → Moved π.to ρ.to d e → Renamed ρ.to d e
moved_renamed π ρ {d} {e} m = record {
  var = m.var;
  used = λ f.
      bool_ext _ _ (λ h. elem-all (λ x. f (ρ.to x)) d.used (λ x u. all-elem f e.used h (ρ.to x) (m.used x ∙ u)))
      (λ h. elem-all f e.used (λ y u. ap f (sym (ρ.to-from y)) ∙ all-elem (λ x. f (ρ.to x)) d.used h (ρ.from y)
      ((moved_back π ρ m).used y ∙ u)));
}

module _ (π ρ : Bijection) (n : ℕ) (defs defs' : List Definition) (p : Permutes n π) (r : Relisted π.to ρ.to defs defs') where
  -- A statement's definitions, moved, are those of the statement that it becomes.
  statement-there : (i : ℕ) (d : Definition) → Memᴰ d (of_statement i defs)
      → (e : Definition) × Memᴰ e (of_statement (π.to i) defs') × Renamed ρ.to d e
  statement-there i d m =
      let s = statement_mem i defs m in
      let e = r.there d s.0 in
      (e.0, mem_statement (π.to i) defs' e.1 (e.2.statement ∙ ap π.to s.1), moved_renamed π ρ e.2)

  statement-only : (i : ℕ) (e : Definition) → Memᴰ e (of_statement (π.to i) defs')
      → (d : Definition) × Memᴰ d (of_statement i defs) × Renamed ρ.to d e
  statement-only i e m =
      let s = statement_mem (π.to i) defs' m in
      let d = r.only e s.0 in
      let at : d.0.statement ≡ i = (moved_back π ρ d.2).statement ∙ ap π.from s.1 ∙ π.from-to i in
      (d.0, mem_statement i defs d.1 at, moved_renamed π ρ d.2)

  -- So the one list's statements are laid into the other's.
  relisted_into : Into (ready defs) (ready defs') (defines defs) (defines defs') n n π.to ρ.to
  relisted_into = record {
    below = p.below;
    given = λ i x h g.
        let d = defines-by defs i x g in
        let e = r.there d.0 d.1.listed in
        by-defines defs' (π.to i) (ρ.to x) (record {
          listed = e.1;
          statement = e.2.statement ∙ ap π.to d.1.statement;
          var = e.2.var ∙ ap ρ.to d.1.var;
        });
    readied = λ K i h d.
        let s = some_mem (of_statement i defs) (and_left _ _ d) in
        let t = statement-there i s.0 s.1 in
        and_intro _ _ (mem_some (of_statement (π.to i) defs') t.1)
        (resolves_renamed ρ.to K (of_statement i defs) (of_statement (π.to i) defs') (statement-there i) (statement-only i)
        (and_right (some (of_statement i defs)) _ d));
  }

  -- What any walk over defs takes, every walk over defs' that has ended took.
  pub relisted_takes : (picks picks' : List ℕ) → WalkEnded defs' n (plain_walk defs' n picks')
      → (i : ℕ) → elem i (plain_walk defs n picks) ≡ true → elem (π.to i) (plain_walk defs' n picks') ≡ true
  relisted_takes picks picks' ended i h =
      reach_taken (ready defs') (defines defs') n (ready_mono defs') picks' ended (π.to i)
      (reach_into (ready defs) (ready defs') (defines defs) (defines defs') n n π.to ρ.to relisted_into i
      (taken_reach (ready defs) (defines defs) n (ready_mono defs) picks i h))
