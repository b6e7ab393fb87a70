-- The definitions of a statement, by membership: which are on its list, and which names it defines.
use mathlib.Core.Path.{◌≡◌, refl, sym, ap, ◌∙◌}
use mathlib.Core.Bool.{true, ◌&&◌}
use mathlib.Core.List.Memᴰ
use mathlib.Core.List.{List, [], ◌∷◌, Memᴰ}
use mathlib.Core.Logic.{⊎_elim}
use Prim.Native.Nat.{ℕ}
use lib.Dec.{eqb}
use borrow.Author.Tests.{eqb-true, eq-eqb}
use Rattle.base.proofs.Laws.Truth.{not-both, and_intro, and_left, and_right, or_left, or_right, or_cases}
use Rattle.base.proofs.Laws.Members.{mem_filter, filter_mem}
use Rattle.order.specs.Definitions.{Definition, of_statement, some, defines}

-- Statement i has just the definitions on the list whose statement is i.
pub mem_statement : {d : Definition} (i : ℕ) (defs : List Definition) → Memᴰ d defs → d.statement ≡ i
    → Memᴰ d (of_statement i defs)
mem_statement i defs m e = mem_filter (λ (d : Definition). eqb d.statement i) defs m (eq-eqb _ i e)

pub statement_mem : {d : Definition} (i : ℕ) (defs : List Definition) → Memᴰ d (of_statement i defs)
    → Memᴰ d defs × (d.statement ≡ i)
statement_mem i defs m =
    let r = filter_mem (λ (d : Definition). eqb d.statement i) defs m in
    (r.0, eqb-true _ i r.1)

-- A list has a definition exactly if one is on it.
pub mem_some : {d : Definition} (defs : List Definition) → Memᴰ d defs → some defs ≡ true
mem_some [] m = absurd (Memᴰ.not-nil m)
mem_some (d ∷ defs) m = refl

pub some_mem : (defs : List Definition) → some defs ≡ true → (d : Definition) × Memᴰ d defs
some_mem [] h = absurd (not-both h refl)
some_mem (d ∷ defs) h = (d, Memᴰ.head refl)

-- Statement i defines x by the definition d on the list.
pub record DefinedBy (defs : List Definition) (i x : ℕ) (d : Definition) : Type 0 where
  pub listed : Memᴰ d defs
  pub statement : d.statement ≡ i
  pub var : d.var ≡ x

-- A statement defines a name exactly if a definition does.
pub by-defines : {d : Definition} (defs : List Definition) (i x : ℕ) → DefinedBy defs i x d → defines defs i x ≡ true
by-defines [] i x b = absurd (Memᴰ.not-nil b.listed)
by-defines {d} (e ∷ defs) i x b =
    ⊎_elim (λ (q : d ≡ e). or_left _ _ (and_intro _ _ (eq-eqb _ i (ap (λ (y : Definition). y.statement) (sym q) ∙ b.statement))
    (eq-eqb _ x (ap (λ (y : Definition). y.var) (sym q) ∙ b.var))))
    (λ (t : Memᴰ d defs). or_right (eqb e.statement i && eqb e.var x) _
    (by-defines defs i x (record { listed = t; statement = b.statement; var = b.var })))
    (Memᴰ.cases_cons b.listed)

pub defines-by : (defs : List Definition) (i x : ℕ) → defines defs i x ≡ true → (d : Definition) × DefinedBy defs i x d
defines-by [] i x h = absurd (not-both h refl)
defines-by (d ∷ defs) i x h =
    ⊎_elim (λ (q : (eqb d.statement i && eqb d.var x) ≡ true). (
      d,
      record {
        listed = Memᴰ.head refl;
        statement = eqb-true _ i (and_left _ _ q);
        var = eqb-true _ x (and_right (eqb d.statement i) _ q);
      },
    ))
    (λ (t : defines defs i x ≡ true). let r = defines-by defs i x t in
    (r.0, record { listed = Memᴰ.tail r.1.listed; statement = r.1.statement; var = r.1.var }))
    (or_cases _ _ h)
