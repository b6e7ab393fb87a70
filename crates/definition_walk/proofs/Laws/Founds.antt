-- Laws of `Founds`.
use mathlib.Core.Path.{◌≡◌, refl, sym, ap, ap₂, ◌∙◌, subst}
use mathlib.Core.Bool.{Bool, true, false, not, ◌&&◌, ◌||◌, or-true}
use mathlib.Core.List.{List, map}
use mathlib.Core.Logic.{◌⊎◌, inl, inr}
use Prim.Native.Nat.{ℕ, ◌≤◌}
use Rattle.std.specs.Prelude.{Option, Some}
use Rattle.std.specs.Option.{option_or}
use native.Mathlib.Omega.{arith}
use lib.Dec.{eqb, leb}
use lib.ListN.{length}
use borrow.Author.Tests.{eq-eqb, ne_eqb}
use Rattle.base.proofs.Laws.Truth.{bool_cases, not-both, neither_left, neither_right}
use Rattle.base.specs.Sets.{member}
use Rattle.names.specs.Inner.Sets.{Inserted}
use Rattle.names.specs.Inner.Names.{Names}
use Rattle.sheet.specs.declared.Row.{Row}
use Rattle.sheet.specs.Sheet.{is_input, is_special}
use Rattle.sheet.specs.Kinds.{is_var, is_compr}
use Rattle.scope_walk.specs.declared.Kids.{Kids}
use Rattle.scope_walk.proofs.Laws.Arms.{KidsTurn, Quiet, NoKind, no_such_kind, no_compr_kind}
use Rattle.scope_walk.proofs.Laws.Numbers.{number_of, by_number, OneOf, same_of, compr_kinds}
use Rattle.sheet.specs.declared.kinds.Kind.{Kind}
use Rattle.sheet.specs.Inner.Kinds.{KindNumbered}
use Rattle.scope_state.specs.declared.Scope.{Scope}
use Rattle.scope_walk.specs.Inner.Sheets.{sheet_at, expr_count}
use Rattle.definition_walk.specs.declared.found.Used.{Used}
use Rattle.definition_walk.specs.Inner.Own.{Owns, IsUse}
use Rattle.definition_walk.proofs.Laws.Own.{IsUndefined, undefined-special, undefined-own, undefined-input, use_special, use_own, use_other}
use Rattle.definition_walk.specs.Inner.Undefined.{UndefinedStep}
use Rattle.definition_walk.proofs.Laws.Undefined.{undefined-other, undefined-not, undefined-here}
use Rattle.definition_walk.specs.Inner.Met.{MetStep, reads}
use Rattle.definition_walk.proofs.Laws.Met.{met-not}
use Rattle.definition_walk.specs.Inner.Firsts.{FirstUse}
use Rattle.definition_walk.proofs.Laws.Firsts.{first-other, first_no_use, first-used}
use Rattle.definition_walk.specs.Inner.Assigned.{AssignedWalk}
use Rattle.definition_walk.specs.Inner.UsedVars.{UsedStep}
use Rattle.definition_walk.proofs.Laws.UsedVars.{var-used, var_not_used, used_step_var, step-bracket, used_step_other}
use Rattle.definition_walk.specs.Inner.Founds.{input_read, found_undefined, OwnUsed, IndexUsed, with_names, RowUsed, compr_met}

-- A name without a meaning of its own is not `input`.
no_special : (t : List ℕ) (x : ℕ) → is_special (sheet_at t) x ≡ false → is_input (sheet_at t) x ≡ false
unfolding is_special
no_special t x h =
    neither_left (is_input (sheet_at t) x) (eqb x (sheet_at t).special.«data»)
    (neither_right (eqb x (sheet_at t).special.blank) (is_input (sheet_at t) x || eqb x (sheet_at t).special.«data») h)

module _ (extras : Names) (w : Row) (a : Used) (ws : List ℕ) (m : Bool) (is : m ≡ member extras.words w.name) where
  pub own-bound : m ≡ true → OwnUsed extras w a ws a ws
  own-bound p = record {
    names = a.names;
    is = refl;
    bound = λ e. (refl, refl);
    free = λ e. absurd (not-both (sym is ∙ p) e);
  }

  pub own-free : m ≡ false → (n : Names) → Inserted a.names.words w.name n.words → (rs : List ℕ) → FirstUse w ws rs
      → (b : Used) → b ≡ with_names a n → OwnUsed extras w a ws b rs
  own-free p n put rs first b e = record {
    names = n;
    is = e;
    bound = λ q. absurd (not-both q (sym is ∙ p));
    free = λ q. (put, first);
  }

-- ---- any row

module _ (t : List ℕ) (k : Scope) (extras : Names) (row : ℕ) (w : Row) (a : Used) (ws : List ℕ) where
  -- ---- variables

  module _ (v : w.kind ≡ 6) where
    no_compr : is_compr w ≡ false
    no_compr = rw v

    reads-is : (i : Bool) → i ≡ is_input (sheet_at t) w.name → (a.reads || i) ≡ (a.reads || (is_var w && is_input (sheet_at t) w.name))
    reads-is i e = rw (eq-eqb w.kind 6 v) (ap (λ (b : Bool). a.reads || b) e)

    module _ (sp : Bool) (special : sp ≡ is_special (sheet_at t) w.name) where
      pub found-special : sp ≡ true → (i : Bool) → i ≡ is_input (sheet_at t) w.name → (b : Used) → b ≡ input_read a i → RowUsed t k extras row w a ws b ws
      found-special p i e b is = subst (λ (u : Used). RowUsed t k extras row w a ws u ws) (sym is) (record {
        count = refl;
        names = used_step_var t k extras w a.names v a.names (var_not_used t k extras w a.names false (use_special t k w sp special p extras) refl);
        first = first_no_use t k extras w ws v false (use_special t k w sp special p extras) refl;
        undefined = undefined-not t k row w a.undefined v (undefined-special t k w sp special p);
        reads = reads-is i e;
        comprs = met-not t is_compr w a.comprs no_compr;
      })

      module _ (other : sp ≡ false) (o : Bool) (owned : Owns k w.name o) where
        no_input : reads t w ≡ false
        no_input = rw (eq-eqb w.kind 6 v) (no_special t w.name (sym special ∙ other))

        pub var-own : o ≡ true → (b : Used) (rs : List ℕ) → OwnUsed extras w a ws b rs → RowUsed t k extras row w a ws b rs
        var-own p b rs u = subst (λ (c : Used). RowUsed t k extras row w a ws c rs) (sym u.is) (go (bool_cases (member extras.words w.name)))
          where
            go : (member extras.words w.name ≡ true) ⊎ (member extras.words w.name ≡ false) → RowUsed t k extras row w a ws (with_names a u.names) rs
            go (inl m) =
                let uses : IsUse t k extras w false = use_own t k w sp special other o owned p extras true (sym m) in
                record {
                  count = refl;
                  names = used_step_var t k extras w a.names v u.names (rw (u.bound m).0 (var_not_used t k extras w a.names false uses refl));
                  first = rw (u.bound m).1 (first_no_use t k extras w ws v false uses refl);
                  undefined = undefined-not t k row w a.undefined v (undefined-own t k w sp special other o owned p);
                  reads = met-not t (reads t) w a.reads no_input;
                  comprs = met-not t is_compr w a.comprs no_compr;
                }
            go (inr m) =
                let uses : IsUse t k extras w true = use_own t k w sp special other o owned p extras false (sym m) in
                record {
                  count = refl;
                  names = used_step_var t k extras w a.names v u.names (var-used t k extras w a.names true uses refl u.names (u.free m).0);
                  first = first-used t k extras w ws v true uses refl rs (u.free m).1;
                  undefined = undefined-not t k row w a.undefined v (undefined-own t k w sp special other o owned p);
                  reads = met-not t (reads t) w a.reads no_input;
                  comprs = met-not t is_compr w a.comprs no_compr;
                }

        module _ (p : o ≡ false) (i : Bool) (input : i ≡ member k.inputs.words w.name) where
          not_own : (n : Option ℕ) → UndefinedStep t k row w a.undefined n
              → RowUsed t k extras row w a ws (record { names = a.names; count = a.count; undefined = n; reads = a.reads; comprs = a.comprs }) ws
          not_own n u = record {
            count = refl;
            names = used_step_var t k extras w a.names v a.names (var_not_used t k extras w a.names false (use_other t k w sp special other o owned p extras) refl);
            first = first_no_use t k extras w ws v false (use_other t k w sp special other o owned p extras) refl;
            undefined = u;
            reads = met-not t (reads t) w a.reads no_input;
            comprs = met-not t is_compr w a.comprs no_compr;
          }

          pub found-input : i ≡ true → RowUsed t k extras row w a ws a ws
          found-input q =
              not_own a.undefined
              (undefined-not t k row w a.undefined v (subst (IsUndefined t k w) (ap not q) (undefined-input t k w sp special other o owned p i input)))

          pub var-undefined : i ≡ false → row ≤ expr_count t → (b : Used) → b ≡ found_undefined a row → RowUsed t k extras row w a ws b ws
          var-undefined q high b is = subst (λ (u : Used). RowUsed t k extras row w a ws u ws) (sym is)
              (not_own (option_or a.undefined (Some row))
              (undefined-here t k row w a.undefined v (subst (IsUndefined t k w) (ap not q) (undefined-input t k w sp special other o owned p i input)) high))

  -- ---- other rows

  module _ (v : w.kind ≡ 6 → ⊥) where
    no_reads : reads t w ≡ false
    no_reads = rw (ne_eqb w.kind 6 v)

    no_var : (n : Names) → UsedStep t k extras w a.names n → (c : Bool) → MetStep t is_compr w a.comprs c
        → RowUsed t k extras row w a ws (record { names = n; count = a.count; undefined = a.undefined; reads = a.reads; comprs = c }) ws
    no_var n u c m = record {
      count = refl;
      names = u;
      first = first-other t k extras w ws v;
      undefined = undefined-other t k row w a.undefined v;
      reads = met-not t (reads t) w a.reads no_reads;
      comprs = m;
    }

    pub row-bracket : (e : w.kind ≡ 16) → (n : Names) → AssignedWalk t k w.second true a.names n → (b : Used) → b ≡ with_names a n → RowUsed t k extras row w a ws b ws
    row-bracket e n walk b is = subst (λ (u : Used). RowUsed t k extras row w a ws u ws) (sym is)
        (no_var n (step-bracket t k extras w a.names v e n walk) a.comprs (met-not t is_compr w a.comprs (rw e)))

    module _ (nb : w.kind ≡ 16 → ⊥) (c : Bool) (compr : c ≡ is_compr w) where
      pub row-compr : c ≡ true → (b : Used) → b ≡ compr_met a → RowUsed t k extras row w a ws b ws
      row-compr p b is = subst (λ (u : Used). RowUsed t k extras row w a ws u ws) (sym is)
          (no_var a.names (used_step_other t k extras w a.names v nb) true (sym (rw (sym compr, p) (or-true a.comprs))))

      pub row_other : c ≡ false → RowUsed t k extras row w a ws a ws
      row_other p = no_var a.names (used_step_other t k extras w a.names v nb) a.comprs (met-not t is_compr w a.comprs (sym compr ∙ p))

-- ---- the arms of `used_from`, on what is found and the first uses

abbrev FoundDone : List ℕ → Scope → Names → ℕ → Row → Used × List ℕ → Used × List ℕ → Type 0
FoundDone t k extras row w a b = RowUsed t k extras row w a.0 a.1 b.0 b.1 × (length b.1 ≡ length a.1)

abbrev pub FoundTurn : List ℕ → Scope → Names → ℕ → Row → Used × List ℕ → Used × List ℕ → Kids → Type 0
FoundTurn t k extras row w = KidsTurn (FoundDone t k extras row w) w

-- The kinds at which something is done: a Var, a RefBrack, a comprehension.
abbrev pub found_number : ℕ → Bool
found_number kind = eqb kind 6 || (eqb kind 16 || (leb 10 kind && leb kind 12))

no_found_kind : (w : Row) → NoKind w → found_number w.kind ≡ false
no_found_kind w none =
    ap₂ ◌||◌ (no_such_kind w 6 (omega arith) (omega arith) none) (ap₂ ◌||◌ (no_such_kind w 16 (omega arith) (omega arith) none) (no_compr_kind w none))

module _ (t : List ℕ) (k : Scope) (extras : Names) (row : ℕ) (w : Row) (a : Used) (ws : List ℕ) where
  abbrev Did : Used → List ℕ → Type 0
  Did b rs = RowUsed t k extras row w a ws b rs × (length rs ≡ length ws)

  nothing_found : found_number w.kind ≡ false → Did a ws
  nothing_found h =
      let rest = neither_right (is_var w) _ h in (
        row_other t k extras row w a ws (λ e. not-both (eq-eqb w.kind 6 e) (neither_left (is_var w) _ h))
            (λ e. not-both (eq-eqb w.kind 16 e) (neither_left (eqb w.kind 16) _ rest)) false (sym (neither_right (eqb w.kind 16) _ rest)) refl,
        refl,
      )

  pub found_still : (kind : Kind) → KindNumbered w.kind kind → Quiet (FoundDone t k extras row w) w found_number kind (a, ws)
  found_still kind is = record { numbered = is; past = no_found_kind w; still = nothing_found }

  pub found_at-bracket : w.kind ≡ 16 → (b : Used) → IndexUsed t k w a b → Did b ws
  found_at-bracket e b u =
      (row-bracket t k extras row w a ws (λ v. not-both (eq-eqb w.kind 6 v) (ap (λ (n : ℕ). eqb n 6) e)) e u.names u.walked b u.is, refl)

  pub found_at-compr : (kind : Kind) → KindNumbered w.kind kind → OneOf kind compr_kinds → (b : Used) → b ≡ compr_met a → Did b ws
  found_at-compr kind e one b is = (
    row-compr t k extras row w a ws
        (λ v. not-both (eq-eqb w.kind 6 v) (told (λ n. eqb n 6) false (no_such_kind w 6 (omega arith) (omega arith)) refl))
        (λ v. not-both (eq-eqb w.kind 16 v) (told (λ n. eqb n 16) false (no_such_kind w 16 (omega arith) (omega arith)) refl))
        true (sym (told (λ n. leb 10 n && leb n 12) true (no_compr_kind w) refl)) refl b is,
    refl,
  )
    where
      -- What is the same of the numbers of the three kinds.
      told : (f : ℕ → Bool) (v : Bool) → (NoKind w → f w.kind ≡ f 0) → map (λ j. f (number_of j)) compr_kinds ≡ map (λ j. v) compr_kinds → f w.kind ≡ v
      told f v past same = by_number f w.kind kind e past ∙ same_of (λ j. f (number_of j)) v kind compr_kinds same one
