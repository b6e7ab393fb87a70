-- Amid the analysis of a statement: each of its comprehensions is fresh, or analysing it again changes nothing.
use mathlib.Core.Path.{◌≡◌, sym, ◌∙◌, subst}
use mathlib.Core.Bool.{true}
use mathlib.Core.List.Memᴰ
use mathlib.Core.List.{List, ◌∷◌, ◌++◌, Memᴰ}
use mathlib.Core.Logic.{◌⊎◌, inl, inr, ⊎_elim}
use Prim.Native.Nat.{ℕ}
use Rattle.base.specs.Lists.{concat_map}
use Rattle.sheet.specs.Sheet.{Sheet}
use Rattle.scope.specs.Trees.{Tree, row_of, outputs_of}
use Rattle.scope.specs.Scopes.{Scope}
use Rattle.definition.specs.States.{sound, QuerySchedule, Run}
use Rattle.original.specs.Inner.SameOuter.{SameOwn, below}
use Rattle.original.proofs.Laws.SameOuter.{same-outer}
use Rattle.original.proofs.Laws.Members.{Among}
use Rattle.original.specs.Inner.Distinct.{distinct}
use Rattle.original.proofs.Laws.Distinct.{Apart, apart_sym, distinct-left, distinct_apart, elem-concat_map, one_or_apart}
use Rattle.definition.specs.RustWay.{analyze}
use Rattle.original.proofs.Laws.RustSame.{analyze-same}
use Rattle.original.specs.Inner.Places.{compr_family, family}
use Rattle.original.proofs.Laws.RustWrites.{family-has, rust_only}
use Rattle.original.proofs.Laws.LookUps.{SameTable, OnlyIn, HeldIn, same-behind, fresh_kept, held_kept, held_now}
use Rattle.original.specs.Inner.LookUps.{Fresh}

module _ (levels : ℕ) (sheet : Sheet) (parents : List Scope) (T₀ : List QuerySchedule) where
  -- The Rust's run of a comprehension that stands in a scope.
  abbrev pub run_of : Scope → Tree → Run
  run_of sc e = analyze levels sheet (sc ∷ parents) (row_of e).third (outputs_of e)

  -- That run is held.
  abbrev pub HeldAt : Scope → Tree → List QuerySchedule → Type 0
  HeldAt sc e T = HeldIn (run_of sc e) (row_of e).third T

  -- Amid the comprehensions C, with the queries P to come: each of C is fresh or held, and those of K are held.
  pub record Amid (C : List Tree) (P : List ℕ) (K : List Tree) (sc : Scope) (T U : List QuerySchedule) : Type 0 where
    pub apart : distinct (concat_map (compr_family (family levels sheet)) C ++ P) ≡ true
    pub fresh : Fresh P T
    pub same : SameTable T (U ++ T₀)
    pub status : (e : Tree) → Memᴰ e C → Fresh (compr_family (family levels sheet) e) T ⊎ HeldAt sc e T
    pub known : (e : Tree) → Memᴰ e K → Memᴰ e C × HeldAt sc e T

  -- A run that is held stays so if the scope keeps its locals and unscoped.
  held_again : (sc sc' : Scope) → SameOwn sc sc' → (e : Tree) (T : List QuerySchedule) → HeldAt sc e T → HeldAt sc' e T
  held_again sc sc' own e T h =
      subst (λ (f : ℕ → List Tree → Run). HeldIn (f (row_of e).third (outputs_of e)) (row_of e).third T)
      (analyze-same levels sheet (below own (same-outer parents))) h

  -- All of it stays so.
  pub amid_again : (C : List Tree) (P : List ℕ) (K : List Tree) (sc sc' : Scope) (T U : List QuerySchedule) → SameOwn sc sc' → Amid C P K sc T U
      → Amid C P K sc' T U
  amid_again C P K sc sc' T U own r = record {
    apart = r.apart;
    fresh = r.fresh;
    same = r.same;
    status = λ e m.
        ⊎_elim (λ (f : Fresh (compr_family (family levels sheet) e) T). inl f) (λ (h : HeldAt sc e T). inr (held_again sc sc' own e T h)) (r.status e m);
    known = λ e m. ((r.known e m).0, held_again sc sc' own e T (r.known e m).1);
  }

  -- Less may be known.
  pub amid_weaken : (C : List Tree) (P : List ℕ) (K L : List Tree) → Among L K → (sc : Scope) (T U : List QuerySchedule) → Amid C P K sc T U
      → Amid C P L sc T U
  amid_weaken C P K L w sc T U r = record {
    apart = r.apart;
    fresh = r.fresh;
    same = r.same;
    status = r.status;
    known = λ e m. r.known e (w e m);
  }

  -- ---- a comprehension

  -- A held one: skipped by the code's way, analysed again by the Rust.
  pub amid_held : (C : List Tree) (P : List ℕ) (K : List Tree) (e : Tree) → Memᴰ e C → (sc : Scope) (T U : List QuerySchedule)
      → Amid C P K sc T U → HeldAt sc e T → Amid C P (e ∷ K) sc T ((run_of sc e).schedules ++ U)
  amid_held C P K e m sc T U r h = record {
    apart = r.apart;
    fresh = r.fresh;
    same = λ x. sym (h.still x) ∙ same-behind (run_of sc e).schedules T U T₀ r.same x;
    status = r.status;
    known = λ d n.
        ⊎_elim (λ (p : d ≡ e). subst (λ (y : Tree). Memᴰ y C × HeldAt sc y T) (sym p) (m, h)) (λ (t : Memᴰ d K). r.known d t)
        (Memᴰ.cases_cons n);
  }

  -- A fresh one: analysed by both.
  pub amid_fresh : (C : List Tree) (P : List ℕ) (K : List Tree) (e : Tree) → Memᴰ e C → (sc : Scope) (T U T₁ : List QuerySchedule)
      → Amid C P K sc T U → Fresh (compr_family (family levels sheet) e) T → (run_of sc e).fault ≡ sound → SameTable T₁ ((run_of sc e).schedules ++ T)
      → Amid C P (e ∷ K) sc T₁ ((run_of sc e).schedules ++ U)
  amid_fresh C P K e m sc T U T₁ r f s now =
      let cf = compr_family (family levels sheet) in
      let F = cf e in
      let W = (run_of sc e).schedules in
      let q = (row_of e).third in
      let only : OnlyIn F W = rust_only levels sheet (sc ∷ parents) q (outputs_of e) s in
      let parts : distinct (concat_map cf C) ≡ true = distinct-left (concat_map cf C) P r.apart in
      let here : HeldAt sc e T₁ = held_now (run_of sc e) q T T₁ s now (f q (family-has levels sheet q (outputs_of e))) in
      let hold : (d : Tree) → Memᴰ d C → HeldAt sc d T → HeldAt sc d T₁ = λ d n h.
      ⊎_elim (λ (p : d ≡ e). subst (λ (y : Tree). HeldAt sc y T₁) (sym p) here)
      (λ (a : Apart (cf d) F).
      held_kept F W T T₁ only now (run_of sc d) (row_of d).third (cf d)
      (rust_only levels sheet (sc ∷ parents) (row_of d).third (outputs_of d) h.is_sound)
      (family-has levels sheet (row_of d).third (outputs_of d)) a h)
      (one_or_apart cf C parts d e n m) in
      record {
        apart = r.apart;
        fresh = fresh_kept F W T T₁ only now P
            (apart_sym F P (λ x p. distinct_apart (concat_map cf C) P r.apart x (elem-concat_map cf C e m x p))) r.fresh;
        same = λ x. now x ∙ same-behind W T U T₀ r.same x;
        status = λ d n.
            ⊎_elim
            (λ (k : Fresh (cf d) T).
            ⊎_elim (λ (p : d ≡ e). inr (subst (λ (y : Tree). HeldAt sc y T₁) (sym p) here))
            (λ (a : Apart (cf d) F). inl (fresh_kept F W T T₁ only now (cf d) a k)) (one_or_apart cf C parts d e n m))
            (λ (h : HeldAt sc d T). inr (hold d n h)) (r.status d n);
        known = λ d n.
            ⊎_elim (λ (p : d ≡ e). subst (λ (y : Tree). Memᴰ y C × HeldAt sc y T₁) (sym p) (m, here))
            (λ (t : Memᴰ d K). ((r.known d t).0, hold d (r.known d t).0 (r.known d t).1)) (Memᴰ.cases_cons n);
      }
