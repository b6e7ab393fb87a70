-- Laws of `Defining`.
use mathlib.Core.Path.{◌≡◌, refl, sym, ap, ◌∙◌, subst}
use mathlib.Core.Bool.{Bool, true, false, cond}
use mathlib.Core.List.{List, [], ◌++◌, map}
use mathlib.Core.Logic.{◌⊎◌, inl, inr}
use Prim.Native.Nat.{ℕ, ◌+◌, ◌/◌, ◌≤◌}
use native.Mathlib.Omega.{arith}
use lib.ListN.{length}
use Rattle.std.specs.Prelude.{None}
use borrow.Author.Tests.{eqb-true}
use Rattle.base.proofs.Laws.Truth.{bool_cases}
use Rattle.names.specs.Inner.Sets.{Empty, Union}
use Rattle.names.specs.Inner.Names.{Names}
use Rattle.names_width.specs.declared.Width.{Width}
use Rattle.names_width.specs.Inner.Widths as Widths
use Rattle.order.specs.Definitions.{Definition}
use Rattle.sheet.specs.declared.Row.{Row}
use Rattle.sheet.specs.Inner.Sheet.{row_at}
use Rattle.sheet.specs.Kinds.{is_ref_brack, is_compr}
use Rattle.scope.specs.Trees.{tree_at}
use Rattle.scope.specs.Scopes as spec
use Rattle.definition.specs.Uses.{define, assigned_vars, index_vars, used_vars, index_definitions_at, index_definitions}
use Rattle.scope_walk.specs.declared.Kids.{Kids}
use Rattle.scope_walk.specs.Inner.Kids.{kids_of}
use Rattle.scope_walk.proofs.Laws.Walks.{alone_at}
use Rattle.scope_state.specs.declared.Scope.{Scope}
use Rattle.scope_walk.specs.Inner.Sheets.{counts_at, special_at, sheet_at, Accepted, expr_count}
use Rattle.scope_state.specs.Inner.Agrees.{Sets}
use Rattle.scope_walk.specs.Inner.Exprs.{expr_by}
use Rattle.definition_walk.specs.declared.found.Used.{Used}
use Rattle.definition_walk.specs.Inner.Own.{Holds}
use Rattle.definition_walk.specs.Inner.Undefined.{UndefinedWalk}
use Rattle.definition_walk.proofs.Laws.Undefined.{undefined_from_none, undefined-none, undefined-turn}
use Rattle.definition_walk.specs.Inner.Met.{MetWalk, reads}
use Rattle.definition_walk.proofs.Laws.Met.{met-none, met-turn, reads_all, comprs-none}
use Rattle.definition_walk.proofs.Laws.Firsts.{first-none, first-turn}
use Rattle.definition_walk.specs.Inner.Founds.{with_names, RowUsed}
use Rattle.definition_walk.proofs.Laws.Collects.{collected-none, collected-turn}
use Rattle.definition_walk.specs.Inner.Adds.{Adds}
use Rattle.definition_walk.proofs.Laws.Adds.{adds_none, adds_then, adds_union, adds_holds}
use Rattle.definition_walk.proofs.Laws.Assigned.{assigned_zero}
use Rattle.definition_walk.specs.Inner.Appended.{Appended}
use Rattle.definition_walk.proofs.Laws.Appended.{appended-none, appended_then, appended_swap}
use Rattle.definition_walk.proofs.Laws.UsedVars.{used_names_at, names-none, names-turn}
use Rattle.definition_walk.proofs.Laws.Index.{append-length, map-length}
use Rattle.definition_walk.specs.Inner.Index.{IndexFits, IndexDefined}
use Rattle.definition_walk.specs.Inner.Defining.{index_row, FreshNames, Here, UsesWalked, RoomFor, GatheredUses}

pub index-low : (w : Row) (n : ℕ) → w.second ≤ n → index_row w ≤ n
index-low w n h = go (is_ref_brack w)
  where
    go : (b : Bool) → cond b w.second 0 ≤ n
    go true = h
    go false = omega arith

-- What a bracket indexes is its first part.
bracket-first : (w : Row) → is_ref_brack w ≡ true → (kids_of w).first ≡ w.first
unfolding kids_of
bracket-first w p = rw (eqb-true w.kind 16 p)

pub made_fresh : (a : Used) (none : Names) → Empty none.words → (b : Used) → b ≡ with_names a none → FreshNames a b
made_fresh a none clear b is = subst (FreshNames a) (sym is) (record { clear = clear; is = refl })

module _ (t : List ℕ) (v : Width) (k : Scope) (i : ℕ) where
  pub here : (w : Row) (own part : Used) (ws rs : List ℕ) (c : ℕ) (all : Names)
      → IndexDefined t v k i (index_row w) part.names ws rs part.count c
      → Union own.names.words part.names.words all.words
      → Here t v k i w own part ws rs (record { names = all; count = c; undefined = part.undefined; reads = part.reads; comprs = part.comprs })
  here w own part ws rs c all d j = record {
    count = d.count;
    names = λ p q. adds_union own.names own.names part.names all [] p (adds_none own.names) q j;
    rows = d.rows;
    undefined = refl;
    reads = refl;
    comprs = refl;
  }

module _ (t : List ℕ) (v : Width) (k : Scope) (extras : Names) (i : ℕ) where
  abbrev defs_at : spec.Scope → List ℕ → Bool → ℕ → List Definition
  defs_at s l rest row = index_definitions (sheet_at t) s l i (expr_by t rest row)

  abbrev index : spec.Scope → Row → List ℕ
  index s w = assigned_vars s (tree_at (sheet_at t) (index_row w))

  -- ---- no row

  module _ (ok : Accepted t) where
    defs_none : (s : spec.Scope) (l : List ℕ) (rest : Bool) → defs_at s l rest 0 ≡ []
    unfolding index_definitions
    defs_none s l rest = collected-none t (index_definitions_at (sheet_at t) s l i) ok rest

    pub uses_walked_none : (row : ℕ) → row ≡ 0 → (rest : Bool) (a : Used) (firsts ws : List ℕ) → UsesWalked t v k extras i row rest a firsts ws a firsts ws
    uses_walked_none row z rest a firsts ws = subst (λ (r : ℕ). UsesWalked t v k extras i r rest a firsts ws a firsts ws) (sym z) (record {
      count = λ s h l e. rw (defs_none s l rest) (omega arith);
      names = λ s h l e. rw (names-none t s l ok rest) (adds_none a.names);
      rows = λ s h l e. rw (defs_none s l rest) (appended-none v ws a.count);
      first = first-none t k extras ok 0 refl rest firsts;
      undefined = undefined-none t k ok 0 refl rest a.undefined;
      reads = met-none t (reads t) ok 0 refl rest a.reads;
      comprs = met-none t is_compr ok 0 refl rest a.comprs;
    })

    -- Past a guard: it walked, or there is no row and all is as it was.
    pub guarded-walk : {A B : Type 0} (row : ℕ) (a : Used) (fs ws : List ℕ) (r : Used) (gs vs : List ℕ)
        → (A → (b : Used) × (hs : List ℕ) × (us : List ℕ) × UsesWalked t v k extras i row true a fs ws b hs us × (length hs ≡ length fs) × (length us ≡ length ws)
        × (gs ≡ hs) × (vs ≡ us) × (r ≡ b))
        → (B → (row ≡ 0) × (gs ≡ fs) × (vs ≡ ws) × (r ≡ a)) → A ⊎ B
        → UsesWalked t v k extras i row true a fs ws r gs vs × (length gs ≡ length fs) × (length vs ≡ length ws)
    guarded-walk row a fs ws r gs vs took left (inl x) = let w = took x in rw (w.6, w.7, w.8) (w.3, w.4, w.5)
    guarded-walk row a fs ws r gs vs took left (inr y) =
        let w = left y in
        rw (w.1, w.2, w.3) (uses_walked_none row w.0 true a fs ws, refl, refl)

    -- ---- a row's turn

    at_row : (s : spec.Scope) (l : List ℕ) (row : ℕ)
        → index_definitions_at (sheet_at t) s l i (alone_at (counts_at t) (special_at t) t row)
        ≡ map (λ (x : ℕ). define i x (used_names_at t s l true (kids_of (row_at t row)).first)) (index s (row_at t row))
    unfolding index_definitions_at index_vars sheet_at
    at_row s l row = go (bool_cases (is_ref_brack (row_at t row)))
      where
        go : let w = row_at t row in
            (is_ref_brack w ≡ true) ⊎ (is_ref_brack w ≡ false)
            → cond (is_ref_brack w) (map (λ (x : ℕ). define i x (used_vars (sheet_at t) s l (tree_at (sheet_at t) w.first))) (assigned_vars s (tree_at (sheet_at t) w.second))) []
            ≡ map (λ (x : ℕ). define i x (used_vars (sheet_at t) s l (tree_at (sheet_at t) (kids_of w).first))) (assigned_vars s (tree_at (sheet_at t) (cond (is_ref_brack w) w.second 0)))
        go (inl p) = rw (p, bracket-first (row_at t row) p)
        go (inr p) = rw (p, assigned_zero t s ok true)

    module _ (row : ℕ) (ne : row ≡ 0 → ⊥) (high : row ≤ expr_count t) (rest : Bool) (w : Row) (is : w ≡ row_at t row)
        (p : Kids) (ps : p ≡ kids_of w) (next : ℕ) (ns : next ≡ cond rest w.next 0) where
      module _ (s : spec.Scope) (l : List ℕ) where
        -- The definitions of the row itself.
        abbrev own_defs : List Definition
        own_defs = map (λ (x : ℕ). define i x (used_names_at t s l true p.first)) (index s w)

        own_is : index_definitions_at (sheet_at t) s l i (alone_at (counts_at t) (special_at t) t row) ≡ own_defs
        own_is = rw (ps, is) (at_row s l row)

        parts : defs_at s l rest row
            ≡ ((((own_defs ++ defs_at s l true p.first) ++ defs_at s l true p.second) ++ defs_at s l true p.third) ++ defs_at s l true next)
        unfolding index_definitions
        parts =
            collected-turn t (index_definitions_at (sheet_at t) s l i) ok rest row ne high w is p ps next ns
            ∙ ap (λ (u : List Definition). (((u ++ defs_at s l true p.first) ++ defs_at s l true p.second) ++ defs_at s l true p.third) ++ defs_at s l true next)
            own_is

        -- How many there are.
        pub record Sum : Type 0 where
          pub total : length (defs_at s l rest row)
              ≡ length (index s w) + length (defs_at s l true p.first) + length (defs_at s l true p.second)
              + length (defs_at s l true p.third) + length (defs_at s l true next)

        sum : Sum
        sum =
            let a = defs_at s l true p.first in
            let b = defs_at s l true p.second in
            let c = defs_at s l true p.third in
            let d = defs_at s l true next in
            record {
              total = omega (
                arith,
                ap length parts,
                append-length (((own_defs ++ a) ++ b) ++ c) d,
                append-length ((own_defs ++ a) ++ b) c,
                append-length (own_defs ++ a) b,
                append-length own_defs a,
                map-length (λ (x : ℕ). define i x (used_names_at t s l true p.first)) (index s w),
              );
            }

      -- ---- room for each call

      module _ (a : Used) (size : ℕ) (room : RoomFor t v k extras i row rest a.count size) where
        abbrev total : Sum room.scope room.list
        total = sum room.scope room.list

        -- A call with room for what is left.
        with-room : (r n count : ℕ) → count + length (defs_at room.scope room.list true r) ≤ n / Widths.row_words v → RoomFor t v k extras i r true count n
        with-room r n count h = record { scope = room.scope; sets = room.sets; list = room.list; holds = room.holds; low = h }

        module _ (own f : Used) (same : own.count ≡ a.count) (fresh : FreshNames own f) where
          fresh-count : f.count ≡ a.count
          fresh-count = ap (λ (u : Used). u.count) fresh.is ∙ same

          pub first-room : RoomFor t v k extras i p.first true f.count size
          first-room = with-room p.first size f.count (omega (arith, total.total, fresh-count, room.low))

          module _ (fs gs ws us : List ℕ) (part : Used) (h₁ : UsesWalked t v k extras i p.first true f fs ws part gs us) where
            part_count : part.count ≡ a.count + length (defs_at room.scope room.list true p.first)
            part_count = omega (arith, fresh-count, h₁.count room.scope room.sets room.list room.holds)

            pub here-fits : (n : ℕ) → n ≡ size → IndexFits t v k (index_row w) part.count n
            here-fits n e =
                record { scope = room.scope; sets = room.sets; low = omega (arith, ap (λ (m : ℕ). m / Widths.row_words v) e, total.total, part_count, room.low) }

            module _ (vs : List ℕ) (b : Used) (h₂ : Here t v k i w own part us vs b) where
              here-count : b.count ≡ a.count + length (defs_at room.scope room.list true p.first) + length (index room.scope w)
              here-count = omega (arith, part_count, h₂.count room.scope room.sets)

              pub second-room : (n : ℕ) → n ≡ size → RoomFor t v k extras i p.second true b.count n
              second-room n e = with-room p.second n b.count (omega (arith, ap (λ (m : ℕ). m / Widths.row_words v) e, total.total, here-count, room.low))

              module _ (hs xs : List ℕ) (c : Used) (h₃ : UsesWalked t v k extras i p.second true b gs vs c hs xs) where
                pub third-room : (n : ℕ) → n ≡ size → RoomFor t v k extras i p.third true c.count n
                third-room n e =
                    with-room p.third n c.count
                    (omega (arith, ap (λ (m : ℕ). m / Widths.row_words v) e, total.total, here-count, room.low, h₃.count room.scope room.sets room.list room.holds))

                pub next-room : (js ys : List ℕ) (d : Used) → UsesWalked t v k extras i p.third true c hs xs d js ys → (n : ℕ) → n ≡ size → RoomFor t v k extras i next true d.count n
                next-room js ys d h₄ n e =
                    with-room next n d.count
                    (omega (
                      arith,
                      ap (λ (m : ℕ). m / Widths.row_words v) e,
                      total.total,
                      here-count,
                      room.low,
                      h₃.count room.scope room.sets room.list room.holds,
                      h₄.count room.scope room.sets room.list room.holds,
                    ))

      -- ---- and what they do together

      pub uses_walked_turn : (a own f part b c d e : Used) (fs fs₀ fs₁ fs₂ fs₃ fs₄ ws us vs xs ys zs : List ℕ) → RowUsed t k extras row w a fs own fs₀
          → FreshNames own f → UsesWalked t v k extras i p.first true f fs₀ ws part fs₁ us → Here t v k i w own part us vs b → UsesWalked t v k extras i p.second true b fs₁ vs c fs₂ xs
          → UsesWalked t v k extras i p.third true c fs₂ xs d fs₃ ys → UsesWalked t v k extras i next true d fs₃ ys e fs₄ zs → UsesWalked t v k extras i row rest a fs ws e fs₄ zs
      uses_walked_turn a own f part b c d e fs fs₀ fs₁ fs₂ fs₃ fs₄ ws us vs xs ys zs h₀ fresh h₁ h₂ h₃ h₄ h₅ = record {
        count = λ s h l o.
            omega (
              arith,
              (sum s l).total,
              fresh-is,
              h₁.count s h l o,
              h₂.count s h,
              h₃.count s h l o,
              h₄.count s h l o,
              h₅.count s h l o,
            );
        names = λ s h l o.
            subst (λ (u : List ℕ). Adds a.names u e.names) (sym (names-turn t s l ok rest row ne high w is p ps next ns))
            (adds_then a.names d.names e.names _ _
            (adds_then a.names c.names d.names _ _
            (adds_then a.names b.names c.names _ _
            (adds_then a.names own.names b.names _ _ (h₀.names s h l o) (h₂.names _ (held s h l o))) (h₃.names s h l o))
            (h₄.names s h l o)) (h₅.names s h l o));
        rows = λ s h l o.
            subst (Appended v ws zs a.count e.count) (sym (parts s l))
            (appended_then v ws ys zs a.count d.count e.count _ _
            (appended_then v ws xs ys a.count c.count d.count _ _
            (appended_then v ws vs xs a.count b.count c.count _ _
            (appended_swap v ws vs a.count b.count (defs_at s l true p.first) (own_defs s l)
            (appended_then v ws us vs a.count part.count b.count _ _
            (subst (λ (n : ℕ). Appended v ws us n part.count (defs_at s l true p.first)) fresh-is (h₁.rows s h l o))
            (h₂.rows s h _ (held s h l o)))) (h₃.rows s h l o)) (h₄.rows s h l o)) (h₅.rows s h l o));
        first =
            first-turn t k extras ok row ne high rest w is p ps next ns fs fs₀ fs₁ fs₂ fs₃ fs₄ h₀.first h₁.first h₃.first h₄.first
            h₅.first;
        undefined =
            undefined-turn t k ok row ne high rest w is p ps next ns a.undefined own.undefined b.undefined c.undefined d.undefined
            e.undefined h₀.undefined
            (subst (λ (u : Used). UndefinedWalk t k p.first true u.undefined b.undefined) fresh.is
            (subst (UndefinedWalk t k p.first true f.undefined) (sym h₂.undefined) h₁.undefined)) h₃.undefined h₄.undefined
            h₅.undefined;
        reads =
            met-turn t (reads t) ok row ne high rest w is p ps next ns a.reads own.reads b.reads c.reads d.reads e.reads h₀.reads
            (subst (λ (u : Used). MetWalk t (reads t) p.first true u.reads b.reads) fresh.is
            (subst (MetWalk t (reads t) p.first true f.reads) (sym h₂.reads) h₁.reads)) h₃.reads h₄.reads h₅.reads;
        comprs =
            met-turn t is_compr ok row ne high rest w is p ps next ns a.comprs own.comprs b.comprs c.comprs d.comprs e.comprs
            h₀.comprs
            (subst (λ (u : Used). MetWalk t is_compr p.first true u.comprs b.comprs) fresh.is
            (subst (MetWalk t is_compr p.first true f.comprs) (sym h₂.comprs) h₁.comprs)) h₃.comprs h₄.comprs h₅.comprs;
      }
        where
          fresh-is : f.count ≡ a.count
          fresh-is = ap (λ (u : Used). u.count) fresh.is ∙ h₀.count

          held : (s : spec.Scope) → Sets k s → (l : List ℕ) → Holds extras l → Holds part.names (used_names_at t s l true p.first)
          held s h l o = adds_holds f.names part.names _ fresh.clear (h₁.names s h l o)

  pub gathered-uses : (row : ℕ) (rest : Bool) (count : ℕ) (start : Names) → Empty start.words → (firsts ws : List ℕ) (r : Used) (firsts' rs : List ℕ)
      → UsesWalked t v k extras i row rest (record { names = start; count = count; undefined = None; reads = false; comprs = false }) firsts ws r firsts' rs
      → GatheredUses t v k extras i row rest count firsts ws r firsts' rs
  gathered-uses row rest count start clear firsts ws r firsts' rs h = record {
    total = h.count;
    names = λ s a l o x. sym ((adds_holds start r.names _ clear (h.names s a l o)).has x);
    rows = h.rows;
    first = h.first;
    undefined = undefined_from_none t k row rest r.undefined h.undefined;
    reads = reads_all t row rest r.reads h.reads;
    comprs = λ no. comprs-none t row rest (subst (MetWalk t is_compr row rest false) no h.comprs);
  }
