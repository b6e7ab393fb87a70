-- `process_comprs`: the comprehensions of a list, one after the other.
use mathlib.Core.Path.{◌≡◌, refl, sym, ap, ◌∙◌, subst}
use mathlib.Core.Bool.{Bool, true, false, cond}
use mathlib.Core.List.{List, [], ◌∷◌, ◌++◌, foldl-append}
use mathlib.Core.Logic.{◌⊎◌, inl, inr}
use Prim.Native.Nat.{ℕ, ◌+◌, ◌-◌, ◌*◌, ◌≤◌}
use native.Mathlib.Omega.{arith}
use lib.ListN.{length, get_or, take}
use Rattle.std.specs.Prelude.{Option}
use Rattle.base.specs.Limits as limits
use Rattle.base.proofs.Laws.Truth.{bool_cases, eq_cases}
use Rattle.names_width.specs.declared.Width.{Width}
use Rattle.names_width.specs.Inner.Widths as Widths
use Rattle.answer_blocks.specs.Inner.Layout.{answers_size}
use Rattle.sheet.specs.declared.Row.{Row}
use Rattle.sheet.specs.Inner.Sheet.{row_at}
use Rattle.sheet.specs.Kinds.{is_compr}
use Rattle.scope.specs.Trees.{Tree}
use Rattle.scope.specs.Scopes.{Scope}
use Rattle.definition.specs.States.{sound, State}
use Rattle.definition.specs.Comprs.{process_compr, process_comprs}
use Rattle.sheet.specs.Naming.{expr_row}
use Rattle.sheet.specs.Inner.Enclosing.{enclosing_query}
use Rattle.definition_room.proofs.Laws.Lying.{lies-there}
use Rattle.definition_room.proofs.Laws.Homes.{Opens, compr_opens}
use Rattle.scope_walk.specs.Inner.Sheets.{counts_at, sheet_at, Accepted}
use Rattle.scope_walk.specs.Inner.Exprs.{expr_by}
use Rattle.scope_walk.proofs.Laws.Walking.{first-low, second-low}
use Rattle.definition_state.specs.declared.Fault.{Fault}
use Rattle.definition_state.specs.declared.Progress.{Progress}
use Rattle.definition_state.specs.Inner.Faults.{is_sound}
use Rattle.definition_state.proofs.Laws.Steps.{sound-is}
use Rattle.definition_state.proofs.Laws.Tails.{tail, tail-length, tail-answers, tail-whole, table_of}
use Rattle.definition_state.proofs.Laws.Frames.{runs_none}
use Rattle.definition_comprs.specs.Inner.Queries.{QueryIn}
use Rattle.definition_comprs.proofs.Laws.Queries.{row-query}
use Rattle.definition_comprs.specs.Inner.Lists.{most_listed, ComprRow, listed_at, both_at, AtRows, ListsBoth}
use Rattle.definition_comprs.proofs.Laws.Lists.{listed_in, listed-step, listed_next, listed_front, front_listed}
use Rattle.definition_comprs.specs.Inner.Used.{AsksListed}
use Rattle.definition_comprs.specs.Inner.Pending.{pending_at}
use Rattle.definition_comprs.proofs.Laws.Pending.{pending}
use Rattle.definition_comprs.specs.Inner.After.{AfterCompr}
use Rattle.definition_cycle.proofs.Laws.Budgets.{above_later_at}
use Rattle.definition_cycle.specs.Inner.Sites.{way_by, LiesIn, SiteAt, Inside}
use Rattle.definition_cycle.proofs.Laws.Moves.{at_rows, room-behind, inside-next, runs_in, runs_in_then, runs_in_as}
use Rattle.definition_cycle.proofs.Laws.Steadies.{steady_comprs}
use Rattle.definition_cycle.specs.Inner.Queries.{DoesQuery}
use Rattle.definition_cycle.proofs.Laws.ComprSteps.{compr-turn}
use Rattle.definition_cycle.specs.Inner.Asks.{AsksComprs, Begun, AsksQuery}
use Rattle.definition_cycle.specs.Inner.Does.{DoesComprs}
use Rattle.sheet.specs.Inner.Rows.{in_tables}

-- ---- several comprehensions

module _ (t inner : List ℕ) (levels : ℕ) where
  abbrev process : List Tree → List Scope → State → State
  process cs parents = process_comprs (sheet_at t) (way_by t levels parents) cs

  two : (k l : List Tree) (parents : List Scope) (s : State) → process l parents (process k parents s) ≡ process (k ++ l) parents s
  unfolding process_comprs
  two k l parents s = sym (foldl-append (process_compr (sheet_at t) (way_by t levels parents)) s k l)

  -- Those of two lists, one after the other.
  does_then : (k l : List Tree) (p q r : Progress) (fs gs hs u v w : List ℕ) → DoesComprs t inner k levels p fs u q gs v
      → DoesComprs t inner l levels q gs v r hs w → DoesComprs t inner (k ++ l) levels p fs u r hs w
  does_then k l p q r fs gs hs u v w a b =
      runs_in_as t inner (λ parents s. process l parents (process k parents s)) (process (k ++ l)) p r fs hs u w (two k l)
      (runs_in_then t inner 0 (process k) (process l) p q r fs gs hs u v w (λ parents. steady_comprs t levels parents k) a b)

  nothing-done : (parents : List Scope) (s : State) → s ≡ process [] parents s
  unfolding process_comprs
  nothing-done parents s = refl

  pub does_none : (p : Progress) (fs w : List ℕ) → DoesComprs t inner [] levels p fs w p fs w
  does_none p fs w =
      runs_in_as t inner (λ parents s. s) (process []) p p fs fs w w nothing-done (runs_in t inner (λ s. s) p p fs fs w w (runs_none t (λ s. s) (λ s. refl) p fs w))

  -- They add no definition.
  abbrev pub inside-after : (cs : List Tree) (p r : Progress) (fs gs w v : List ℕ) → DoesComprs t inner cs levels p fs w r gs v
      → Inside t inner p fs w 0 → Inside t inner r gs v 0
  inside-after cs p r fs gs w v does =
      inside-next t inner p r fs gs w v 0 0 0 (process cs) (λ parents. steady_comprs t levels parents cs) (omega arith) does

-- ---- those of two expressions, listed

module _ (t : List ℕ) (rest : Bool) (one two : ℕ) (rows : List ℕ) (end : ℕ) (l : ListsBoth t rest one two rows end) where
  pub both_is : listed_at t rows 0 (end - 0) ≡ both_at t rest one two
  both_is = let e : end - 0 ≡ end = omega arith in rw e l.expressions

  module _ (rows-room : most_listed ≤ length rows) where
    -- They stand in the front.
    pub both_front : listed_at t (take end rows) 0 (length (take end rows)) ≡ both_at t rest one two
    both_front = listed_front t rows end (omega (arith, l.fits)) ∙ l.expressions

    -- What is asked where their uses are gathered.
    pub both_used : (v : Width) → Accepted t → (work : List ℕ) → answers_size v ≤ length work → AsksListed t v (take end rows) work
    both_used v ok work answers-room = record {
      accepted = ok;
      comprehensions = front_listed t (λ q. ⊥) rows end (omega (arith, l.fits)) (listed_in t rows 0 end (AtRows t one two) (λ q. ⊥) (λ q o. absurd o) l.comprehensions);
      answers-room = answers-room;
    }

  module _ (inner : List ℕ) where
    -- And where they are processed.
    pub both-asks : Accepted t → limits.per_name ≤ length inner → most_listed ≤ length rows → (p : Progress) (fs w : List ℕ) → limits.per_name ≤ length fs
        → (i : Inside t inner p fs w 0) → LiesIn t i.at.query one → LiesIn t i.at.query two → AsksComprs t inner rows 0 end p fs w
    both-asks ok inner_room rows-room p fs w firsts_room i one_lies two-lies = record {
      accepted = ok;
      inner_room = inner_room;
      firsts_room = firsts_room;
      up = omega arith;
      in_list = omega (arith, l.fits);
      inside = i;
      comprehensions = listed_in t rows 0 end (AtRows t one two) (λ q. q ≡ i.at.query)
          (λ q e. (subst (λ (n : ℕ). LiesIn t n one) (sym e) one_lies, subst (λ (n : ℕ). LiesIn t n two) (sym e) two-lies)) l.comprehensions;
    }

    pub both_do : (levels : ℕ) (p : Progress) (fs w : List ℕ) (r : Progress) (gs v : List ℕ) → DoesComprs t inner (listed_at t rows 0 (end - 0)) levels p fs w r gs v
        → DoesComprs t inner (both_at t rest one two) levels p fs w r gs v
    both_do levels p fs w r gs v = subst (λ (cs : List Tree). DoesComprs t inner cs levels p fs w r gs v) both_is

-- ---- the turn of one

-- The comprehension w is at place `at`, before the end.
module _ (t inner rows : List ℕ) (place end : ℕ) (p : Progress) (firsts work : List ℕ) (h : AsksComprs t inner rows place end p firsts work)
    (more : place ≡ end → ⊥) (w : Row) (is : w ≡ row_at t (get_or rows place 0)) where
  abbrev ok : Accepted t
  ok = h.accepted

  abbrev at : SiteAt t h.inside.spans p firsts work 0
  at = h.inside.at

  abbrev row : ℕ
  row = get_or rows place 0

  abbrev listed-row : ComprRow t (λ q. q ≡ at.query) row
  listed-row = h.comprehensions place (omega arith) (omega (arith, h.up))

  there : row ≡ 0 → ⊥
  there z = omega (arith, listed-row.from)

  is-compr : is_compr w ≡ true
  is-compr = ap (λ (v : Row). is_compr v) is ∙ listed-row.is

  here : enclosing_query (counts_at t) (in_tables t) (expr_row row) ≡ at.query
  here = lies-there (counts_at t) t at.query row listed-row.from (listed-row.lies at.query refl)

  pub query_in : QueryIn w
  query_in = row-query t ok row there listed-row.to w is

  -- The rows have a words, as the code counts them.
  pub room_at : (a : ℕ) → a ≡ Widths.row_words p.width * p.count → a + answers_size p.width ≤ length work
  room_at a is = omega (arith, is, at_rows t h.inside.spans p firsts work 0 at)

  -- ---- the call of `analyze_query`

  abbrev lent : (a : ℕ) → a ≡ Widths.row_words p.width * p.count → List ℕ
  lent a a-is = tail p.width work a (room_at a a-is)

  module _ (a : ℕ) (a-is : a ≡ Widths.row_words p.width * p.count) (query : ℕ) (asks : query ≡ pending_at p w work) where
    asked : (query ≡ 0 → ⊥) → (is_compr w ≡ true) × (is_sound p.fault ≡ true)
    asked ne = go (bool_cases (is_compr w)) (bool_cases (is_sound p.fault))
      where
        go : (is_compr w ≡ true) ⊎ (is_compr w ≡ false) → (is_sound p.fault ≡ true) ⊎ (is_sound p.fault ≡ false)
            → (is_compr w ≡ true) × (is_sound p.fault ≡ true)
        go (inl c) (inl b) = (c, b)
        go (inr c) b = absurd (ne (asks ∙ rw c))
        go (inl c) (inr b) = absurd (ne (asks ∙ rw (c, b)))

    opens : is_compr w ≡ true → Opens (counts_at t) t at.query w
    opens c =
        let o = compr_opens (counts_at t) t ok.within ok.fine at.query row listed-row.from listed-row.to here (ap (λ (v : Row). is_compr v) (sym is) ∙ c) in
        subst (Opens (counts_at t) t at.query) (sym is) o

    begun : (query ≡ 0 → ⊥) → Begun t p.width inner (lent a a-is) query w.first w.second
    begun ne =
        let due = asked ne in
        let clear : at.state.run.fault ≡ sound = sym at.agrees.fault ∙ sound-is p.fault due.1 in
        let held = at.agrees.whole clear in
        let from = (query_in due.0).0 in
        let to = (query_in due.0).1 in
        let o = opens due.0 in
        let is-pending = pending p w work at.state.run.schedules held.table.stored from to due.0 due.1 (λ z. ne (asks ∙ z)) in
        let q : query ≡ w.third = asks ∙ is-pending.0 in
        rw q (record {
          from = from;
          to = o.in_sheet;
          key-low = first-low t ok row there listed-row.to w is;
          value_low = second-low t ok row there listed-row.to w is;
          key-lies = o.first;
          value-lies = o.second;
          room = room-behind p.width (length work) _ p.count a a-is _ at.room (room_at a a-is)
              (omega (arith, at.agrees.count, above_later_at t at.query w.third o.nests.larger o.in_sheet))
              (length (lent a a-is)) (tail-length p.width work a (room_at a a-is));
          parents = at.state.scope ∷ at.parents;
          beneath = h.inside.around clear;
          schedules = at.state.run.schedules;
          table = table_of p.width t work (lent a a-is) at.state.run.schedules (omega (arith, room_at a a-is, tail-length p.width work a (room_at a a-is)))
              (tail-answers p.width work a (room_at a a-is)) held.table;
        })

    pub query-asks : AsksQuery t p.width inner (lent a a-is) query w.first w.second
    query-asks = go (eq_cases query 0)
      where
        go : (query ≡ 0) ⊎ (query ≡ 0 → ⊥) → AsksQuery t p.width inner (lent a a-is) query w.first w.second
        go (inl z) = inl z
        go (inr ne) = inr (begun ne)

    pub own_does : (levels : ℕ) (fault : Option Fault) (part : List ℕ) (long : length part ≡ length (lent a a-is))
        → DoesQuery t p.width inner query w.first w.second levels (lent a a-is) fault part → (r : Progress) (firsts' : List ℕ)
        → AfterCompr w (tail-whole p.width work a (room_at a a-is) part long) p fault firsts r firsts'
        → DoesComprs t inner (expr_by t false row ∷ []) levels p firsts work r firsts' (tail-whole p.width work a (room_at a a-is) part long)
    unfolding process_comprs
    own_does levels fault part long does r firsts' after =
        subst (λ (b : Bool). DoesComprs t inner (cond b (expr_by t false row ∷ []) []) levels p firsts work r firsts' (tail-whole p.width work a (room_at a a-is) part long)) is-compr
        (compr-turn t ok inner levels row there listed-row.to w is query_in p firsts work a a-is (room_at a a-is) query asks fault part long does r firsts' after)

  -- ---- the call of itself

  module _ (levels : ℕ) (s₀ : Progress) (f₀ w₀ : List ℕ) (d₀ : DoesComprs t inner (expr_by t false row ∷ []) levels p firsts work s₀ f₀ w₀) where
    pub next-asks : length f₀ ≡ length firsts → AsksComprs t inner rows (place + 1) end s₀ f₀ w₀
    next-asks long = record {
      accepted = ok;
      inner_room = h.inner_room;
      firsts_room = omega (arith, h.firsts_room);
      up = omega (arith, h.up);
      in_list = h.in_list;
      inside = inside-after t inner levels (expr_by t false row ∷ []) p s₀ firsts f₀ work w₀ d₀ h.inside;
      comprehensions = listed_next t rows place end (λ q. q ≡ at.query) h.comprehensions;
    }

    pub turn_does : (s₁ : Progress) (f₁ w₁ : List ℕ) → DoesComprs t inner (listed_at t rows (place + 1) (end - (place + 1))) levels s₀ f₀ w₀ s₁ f₁ w₁
        → DoesComprs t inner (listed_at t rows place (end - place)) levels p firsts work s₁ f₁ w₁
    turn_does s₁ f₁ w₁ d₁ =
        subst (λ (cs : List Tree). DoesComprs t inner cs levels p firsts work s₁ f₁ w₁) (sym (listed-step t rows place end h.up more))
        (does_then t inner levels (expr_by t false row ∷ []) (listed_at t rows (place + 1) (end - (place + 1))) p s₀ s₁ firsts f₀ f₁ work w₀ w₁ d₀ d₁)
