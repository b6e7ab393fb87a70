-- A literal is processed by its form.
use mathlib.Core.Path.{◌≡◌, refl, sym, ap, ◌∙◌, subst}
use mathlib.Core.Bool.{Bool, true, false, cond}
use mathlib.Core.List.{List, [], ◌∷◌, ◌++◌, map, foldl}
use mathlib.Core.Logic.{◌⊎◌, inl, inr}
use Prim.Native.Nat.{ℕ, suc, ◌≤◌, ◌<◌}
use native.Mathlib.Omega.{arith}
use lib.Dec.{eqb}
use borrow.Author.Tests.{eq-eqb, ne_eqb}
use Rattle.base.proofs.Laws.Truth.{lt_cases}
use Rattle.sheet.specs.declared.Statement.{Statement}
use Rattle.sheet.specs.declared.kinds.Form.{Form}
use Rattle.sheet.specs.declared.kinds.Form.TheVariants as shape
use Rattle.sheet.specs.Inner.Kinds.{FormNumbered, NoArm}
use Rattle.sheet.specs.Inner.Records.{statement_row_at}
use Rattle.sheet.specs.Fields.{forms, form_of}
use Rattle.sheet.specs.declared.Row.{Row}
use Rattle.base.specs.Lists.{concat_map}
use Rattle.sheet.specs.Sheet.{Sheet}
use Rattle.scope.specs.Trees.{Tree, chain}
use Rattle.scope.specs.Traverse.{vars}
use Rattle.scope.specs.Statements.{Literal, some_vars, some_in, expr, not_expr, every, literal_of}
use Rattle.scope.specs.Scopes.{Scope, no_scope, add_local, span_of, span_in}
use Rattle.definition.specs.Uses.{define}
use Rattle.definition.specs.States.{sound, State, add_first_uses, add_definitions, fail_or, Way}
use Rattle.definition.specs.Using.{used_before_at, check_first_use, record_one}
use Rattle.definition.specs.Comprs.{Mods, all_used, use_expr}
use Rattle.definition.specs.Exprs.{process_plain_expr}
use Rattle.definition.specs.SomeIn.{some_vars_in, non_vars, process_non_var, process_some_in}
use Rattle.definition.specs.Queries.{process_every, process_literal}
use Rattle.definition_room.specs.Inner.Sizes.{size, literal_size}
use Rattle.definition_room.proofs.Laws.Lying.{statement-there}
use Rattle.definition_room.proofs.Laws.StatementHomes.{StatementInside, statement-lies}
use Rattle.scope_walk.specs.Inner.Sheets.{counts_at, sheet_at, Accepted, expr_count}
use Rattle.scope_state.specs.Inner.Chains.{chain_at}
use Rattle.scope_gather.proofs.Laws.Queries.{named-at}
use Rattle.scope_gather.specs.Inner.Statements.{NamedParts}
use Rattle.definition_state.specs.declared.Progress.{Progress}
use Rattle.definition_state.specs.Inner.Frames.{guarded}
use Rattle.definition_record.specs.Inner.Checks.{VarsChecked}
use Rattle.definition_literal.specs.declared.context.Context.{Context}
use Rattle.definition_steps.proofs.Laws.Guards.{fault_cases, guarded-sound, guarded-stays, turn-stays, fold_stays}
use Rattle.definition_cycle.specs.Inner.Sites.{way_by}
use Rattle.definition_cycle.proofs.Laws.Moves.{under_less, runs-under, runs_under_as}
use Rattle.definition_cycle.specs.Inner.Asks.{tree_of, AsksWhole, AsksLiteral}
use Rattle.definition_steps.specs.Inner.Pairs.{leaves_at}
use Rattle.definition_cycle.specs.Inner.Does.{DoesStep, expr_step, some_in_step, every_step, literal_step}

-- ---- at a fault nothing is done

-- A step that stays there is the same with a guard.
as_guarded : (f : State → State) → ((s : State) → (s.run.fault ≡ sound → ⊥) → f s ≡ s) → (s : State) → f s ≡ guarded f s
as_guarded f stays s = go (fault_cases s.run.fault)
  where
    go : (s.run.fault ≡ sound) ⊎ (s.run.fault ≡ sound → ⊥) → f s ≡ guarded f s
    go (inl e) = sym (guarded-sound f s e)
    go (inr n) = stays s n ∙ sym (guarded-stays s n f)

check_stays : (ws : List Row) (s : State) → (s.run.fault ≡ sound → ⊥) → foldl check_first_use s ws ≡ s
unfolding check_first_use
check_stays ws s n =
    fold_stays s check_first_use (λ w. turn-stays s n (fail_or (used_before_at (span_in s.first_uses w.name) w) (λ u. u) ∷ [])) ws

module _ (sheet : Sheet) (way : Way) (i : ℕ) (m : Mods) (s : State) (n : s.run.fault ≡ sound → ⊥) where
  some_in-stays : (pattern : List Tree) (collection : Tree) → process_some_in sheet way i m pattern collection s ≡ s
  unfolding process_some_in
  some_in-stays pattern collection =
      let names = some_vars_in sheet s.scope pattern in
      let others = non_vars sheet s.scope pattern in
      let later : Mods = record { used_vars = []; comprs = m.comprs } in
      turn-stays s n
      (use_expr sheet way i [] m collection
      ∷ (λ u. add_definitions (map (λ (w : Row). define i w.name (all_used sheet way [] m collection u)) names) u)
      ∷ add_first_uses (map span_of names)
      ∷ (λ u. foldl (process_non_var sheet way i m) u others)
      ∷ (λ u. record_one i 0 (concat_map (λ e. all_used sheet way [] later e u) others) u)
      ∷ [])

  every-stays : (key value domain : Tree) (query : ℕ) → process_every sheet way i m key value domain query s ≡ s
  unfolding process_every
  every-stays key value domain query =
      turn-stays s n
      (process_plain_expr sheet way i m domain
      ∷ (λ u. way.body (foldl add_local no_scope (vars (chain key ++ chain value))) u.scope query u)
      ∷ [])

-- ---- by form

-- Of five forms, an expression's are the third and the fourth.
three_or_four : (form : ℕ) → 3 ≤ form → form ≤ 4 → (form ≡ 3) ⊎ (form ≡ 4)
three_or_four form low high = go (lt_cases 3 form)
  where
    go : (3 < form) ⊎ (form ≤ 3) → (form ≡ 3) ⊎ (form ≡ 4)
    go (inl l) = inr (omega arith)
    go (inr l) = inl (omega arith)

from_three : (form : ℕ) → 1 ≤ form → (form ≡ 1 → ⊥) → (form ≡ 2 → ⊥) → 3 ≤ form
from_three form low one two = omega arith

to_four : (form : ℕ) → form ≤ 5 → (form ≡ 5 → ⊥) → form ≤ 4
to_four form high five = omega arith

-- The forms that a match leaves beside the others.
pub plain_form : {k : Form} (form : ℕ) → FormNumbered form k → (k ≡ shape.NotExpr) ⊎ (k ≡ shape.Unknown)
    → (form ≡ 1 → ⊥) × (form ≡ 2 → ⊥) × (form ≡ 5 → ⊥) × (eqb form 3 ≡ false)
plain_form form is (inl e) =
    let four : form ≡ 4 = subst (FormNumbered form) e is in
    ((λ z. omega arith), (λ z. omega arith), (λ z. omega arith), ne_eqb form 3 (λ z. omega arith))
plain_form form is (inr e) =
    let no : NoArm 5 form = subst (FormNumbered form) e is in
    (no.0.0.0.0.1, no.0.0.0.1, no.1, ne_eqb form 3 no.0.0.1)

-- The first field of an expression's form is set.
expr-set : (form : ℕ) → (form ≡ 3) ⊎ (form ≡ 4) → (form_of form).first.set ≡ true
unfolding form_of forms
expr-set form (inl e) = rw e refl
expr-set form (inr e) = rw e refl

module _ (t : List ℕ) (st : Statement) where
  vars-is : st.form ≡ 1 → literal_of (sheet_at t) st ≡ some_vars (tree_of t st.first)
  unfolding literal_of
  vars-is e = rw (eq-eqb st.form 1 e) refl

  some_in-is : st.form ≡ 2 → literal_of (sheet_at t) st ≡ some_in (tree_of t st.first) (tree_of t st.second) (tree_of t st.third)
  unfolding literal_of
  some_in-is e = rw e refl

  every-is : st.form ≡ 5 → literal_of (sheet_at t) st ≡ every (tree_of t st.first) (tree_of t st.second) (tree_of t st.third) st.query
  unfolding literal_of
  every-is e = rw e refl

  -- An expression, negated or not.
  abbrev expr_by : Bool → Literal
  expr_by call = cond call (expr (tree_of t st.first)) (not_expr (tree_of t st.first))

  expr-is : (st.form ≡ 3) ⊎ (st.form ≡ 4) → literal_of (sheet_at t) st ≡ expr_by (eqb st.form 3)
  unfolding literal_of
  expr-is (inl e) = rw e refl
  expr-is (inr e) = rw e refl

  expr-size : (call : Bool) → literal_size (expr_by call) ≡ size (tree_of t st.first)
  expr-size true = refl
  expr-size false = refl

  module _ (ok : Accepted t) (outer spans : List ℕ) (x : Context) (p : Progress) (firsts work : List ℕ)
      (asks : AsksLiteral t outer spans st x p firsts work) where
    named : NamedParts t st
    named = subst (NamedParts t) (sym asks.is) (named-at t ok asks.row (λ z. omega (arith, asks.there)) asks.low)

    lying : StatementInside (counts_at t) t asks.under.at.query st
    lying =
        let q = asks.under.at.query in
        subst (StatementInside (counts_at t) t q) (sym asks.is)
        (statement-lies (counts_at t) t ok.within ok.fine q asks.row asks.there asks.low
        (statement-there (counts_at t) t q asks.row asks.there asks.lies))

    pub literal_first_low : st.first ≤ expr_count t
    literal_first_low = named.first

    module _ (r : Progress) (firsts' work' : List ℕ) where
      abbrev Does : (List Scope → Mods → State → State) → Type 0
      Does f = DoesStep t f outer spans x p firsts work r firsts' work'

      -- The literal's step by another name.
      does_as : (l : Literal) → literal_of (sheet_at t) st ≡ l → (f : List Scope → Mods → State → State)
          → ((parents : List Scope) (m : Mods) (s : State)
          → f parents m s ≡ guarded (process_literal (sheet_at t) (way_by t x.levels parents) x.statement m l) s)
          → Does f → Does (literal_step t st x)
      does_as l e f same h m stands =
          runs_under_as t outer spans (λ parents. f parents m) (λ parents. literal_step t st x parents m) p r firsts firsts' work work'
          (λ parents s. same parents m s
          ∙ ap (λ (k : Literal). guarded (process_literal (sheet_at t) (way_by t x.levels parents) x.statement m k) s) (sym e))
          (h m stands)

      pub literal-some_in : st.form ≡ 2 → Does (some_in_step t st x) → Does (literal_step t st x)
      unfolding process_literal
      literal-some_in e h =
          does_as _ (some_in-is e) (some_in_step t st x)
          (λ parents m. as_guarded (some_in_step t st x parents m)
          (λ s n. some_in-stays (sheet_at t) (way_by t x.levels parents) x.statement m s n (leaves_at t st.first ++ leaves_at t st.second) (tree_of t st.third))) h

      pub literal-every : st.form ≡ 5 → Does (every_step t st x) → Does (literal_step t st x)
      unfolding process_literal
      literal-every e h =
          does_as _ (every-is e) (every_step t st x)
          (λ parents m. as_guarded (every_step t st x parents m)
          (λ s n. every-stays (sheet_at t) (way_by t x.levels parents) x.statement m s n (tree_of t st.first) (tree_of t st.second) (tree_of t st.third) st.query)) h

    pub literal-vars : st.form ≡ 1 → (r : Progress) → VarsChecked t st.first p firsts r
        → DoesStep t (literal_step t st x) outer spans x p firsts work r firsts work
    unfolding process_literal
    literal-vars e r h =
        let f : State → State = λ s. foldl check_first_use s (vars (chain_at t st.first)) in
        does_as r firsts work _ (vars-is e) (λ parents m. f)
        (λ parents m. as_guarded f (λ s n. check_stays (vars (chain_at t st.first)) s n))
        (λ m stands. runs-under t outer spans f p r firsts firsts work work (h work))

    -- ---- an expression

    module _ (not-vars : st.form ≡ 1 → ⊥) (not-some-in : st.form ≡ 2 → ⊥) (not-every : st.form ≡ 5 → ⊥) where
      either : (st.form ≡ 3) ⊎ (st.form ≡ 4)
      either =
          let f = ok.facts.statement asks.row asks.there asks.low in
          three_or_four st.form (from_three st.form (rw asks.is f.form-low) not-vars not-some-in)
          (to_four st.form (rw asks.is f.form-high) not-every)

      set : 1 ≤ st.first
      set =
          let f = (ok.facts.statement asks.row asks.there asks.low).in_first in
          subst (λ (v : Statement). 1 ≤ v.first) (sym asks.is)
          (f.is_set (expr-set (statement_row_at t asks.row).form (subst (λ (v : Statement). (v.form ≡ 3) ⊎ (v.form ≡ 4)) asks.is either)))

      pub asks-expr : AsksWhole t outer spans st.first x p firsts work
      asks-expr = record {
        under = under_less t outer spans p firsts work (suc (literal_size (literal_of (sheet_at t) st))) (suc (size (tree_of t st.first)))
            (omega (arith, ap literal_size (expr-is either), expr-size (eqb st.form 3))) asks.under;
        there = set;
        low = literal_first_low;
        lies = lying.first;
        mods_lie = asks.mods_lie;
        mods-low = asks.mods-low;
      }

      pub literal-expr : (call : Bool) → call ≡ eqb st.form 3 → (r : Progress) (firsts' work' : List ℕ)
          → DoesStep t (expr_step t call st.first x) outer spans x p firsts work r firsts' work'
          → DoesStep t (literal_step t st x) outer spans x p firsts work r firsts' work'
      unfolding process_literal
      literal-expr call is r firsts' work' h =
          does_as r firsts' work' (expr_by call) (expr-is either ∙ ap expr_by (sym is)) (expr_step t call st.first x) (go call) h
        where
          go : (b : Bool) (parents : List Scope) (m : Mods) (s : State)
              → expr_step t b st.first x parents m s
              ≡ guarded (process_literal (sheet_at t) (way_by t x.levels parents) x.statement m (expr_by b)) s
          go true parents m s = refl
          go false parents m s = refl
