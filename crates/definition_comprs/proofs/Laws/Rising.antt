-- Laws of `Rising`.
use mathlib.Core.Path.{◌≡◌, refl, sym, ap, ap₂, ◌∙◌, subst}
use mathlib.Core.Bool.{Bool, true, false, not, ◌&&◌}
use mathlib.Core.List.{List, [], ◌∷◌, foldl}
use Prim.Native.Nat.{ℕ}
use Rattle.base.specs.Limits as limits
use Rattle.base.specs.Lists.{filter, range}
use Rattle.base.proofs.Laws.Lists.{elem-filter}
use Rattle.base.specs.Sets.{member}
use Rattle.names.specs.Inner.Sets.{Difference}
use Rattle.names.specs.Inner.Names.{Names}
use Rattle.sheet.specs.declared.Row.{Row}
use Rattle.sheet.specs.Sheet.{Sheet}
use Rattle.scope.specs.Trees.{Tree, row_of}
use Rattle.scope.specs.Scopes.{contains, elements, Span, owns, add_input, use_input}
use Rattle.scope.specs.Scopes as spec
use Rattle.definition.specs.States.{sound, State, set_scope, add_first_uses, Way}
use Rattle.definition.specs.Comprs.{propagate, comprs_use, use_compr}
use Rattle.definition_once.specs.Inner.OnceWay.{Nested, compr_scope, once_way}
use Rattle.definition_once.proofs.Laws.OnceWay.{compr_inputs}
use Rattle.scope_state.specs.declared.Scope.{Scope}
use Rattle.scope_state.specs.Inner.Agrees.{Sets}
use Rattle.definition_walk.specs.Inner.Own.{Holds}
use Rattle.definition_walk.proofs.Laws.Collects.{append-nil}
use Rattle.definition_state.specs.declared.Progress.{Progress}
use Rattle.definition_state.specs.Inner.Frames.{scoped, WholeState, Agree}
use Rattle.definition_state.proofs.Laws.Steps.{sound-is}
use Rattle.definition_comprs.specs.declared.taken.Taken.{Taken}
use Rattle.definition_comprs.specs.Inner.Takes.{Takes, TakenBy}
use Rattle.definition_comprs.specs.Inner.OwnInputs.{OwnInputs}
use Rattle.definition_comprs.proofs.Laws.OwnInputs.{elem-elements, filter-both}
use Rattle.definition_comprs.proofs.Laws.Propagated.{JoinedInputs, inputs_joined, joined_owns}
use Rattle.definition_comprs.specs.Inner.Propagated.{Propagated}
use Rattle.definition_comprs.specs.Inner.Uses.{UsesNames}
use Rattle.definition_comprs.specs.Inner.Rising.{rising, way, Risen}

-- ---- the steps

sound-rises : (sheet : Sheet) (way : Way) (s : State) → s.run.fault ≡ sound → (e : Tree)
    → rising sheet way e s ≡ use_compr sheet way e (propagate sheet way s.scope e s)
unfolding propagate set_scope
sound-rises sheet way s h e = rw h

-- ---- the lists

module _ (e : Tree) (s : State) (k : Scope) (a : Sets k s.scope) (tk : Taken) (takes : Takes (compr_scope s e) tk) (own : Names)
    (owned : OwnInputs k tk.inputs own) where
  -- The inputs that are not own names.
  others_held : (others : Names) → Difference tk.inputs.words own.words others.words
      → Holds others (filter (λ x. not (owns s.scope x)) (compr_inputs s e))
  others_held others d = record {
    has = λ x.
        elem-filter (λ y. not (owns s.scope y)) x (elements (compr_scope s e).inputs)
        ∙ ap (λ (b : Bool). not (owns s.scope x) && b) (elem-elements (compr_scope s e).inputs takes.low x ∙ takes.inputs x)
        ∙ bits (member tk.inputs.words x) (owns s.scope x)
        ∙ ap (λ (b : Bool). member tk.inputs.words x && not b) (sym (owned s.scope a x)) ∙ sym (d.has x);
  }
    where
      bits : (i o : Bool) → (not o && i) ≡ (i && not (i && o))
      bits true true = refl
      bits true false = refl
      bits false true = refl
      bits false false = refl

  -- And those that are, in order.
  own-listed : (sc : spec.Scope) → ((x : ℕ) → owns sc x ≡ owns s.scope x)
      → filter (owns sc) (compr_inputs s e) ≡ filter (member own.words) (range 0 limits.per_name)
  unfolding elements
  own-listed sc same =
      filter-both (owns sc) (contains (compr_scope s e).inputs) (member own.words)
      (λ x. owned s.scope a x ∙ ap₂ ◌&&◌ (sym (takes.inputs x)) (sym (same x))) (range 0 limits.per_name)

-- ---- a comprehension's turn

module _ (w : Row) (work : List ℕ) (p : Progress) (ws : List ℕ) (tk : Taken) (by : TakenBy p.width work w.third tk) (own : Names)
    (owned : OwnInputs p.scope tk.inputs own) (others : Names) (d : Difference tk.inputs.words own.words others.words)
    (k : Scope) (put : Propagated p.scope tk.uses others k) (rs : List ℕ) (used : UsesNames w own ws rs) where
  module _ (sheet : Sheet) (nested : Nested) (parents : List spec.Scope) (t spans : List ℕ) (s : State) (e : Tree) (is : row_of e ≡ w)
      (h : WholeState t spans p ws work s) where
    takes : Takes (compr_scope s e) tk
    takes = rw is (by s.run.schedules h.table.stored)

    names : List ℕ
    names = filter (λ x. not (owns s.scope x)) (compr_inputs s e)

    flagged : spec.Scope
    flagged = use_input (compr_scope s e).uses_input s.scope

    joined : JoinedInputs flagged names (foldl add_input flagged names)
    joined = inputs_joined names flagged

    same-owns : (x : ℕ) → owns (foldl add_input flagged names) x ≡ owns s.scope x
    unfolding flagged names use_input owns
    same-owns x = joined_owns flagged names (foldl add_input flagged names) joined x

    uses-listed : comprs_use sheet (way w work p ws tk by own owned others d k put rs used sheet nested parents t spans s e is h) (e ∷ []) (propagate sheet (way w work p ws tk by own owned others d k put rs used sheet nested parents t spans s e is h) s.scope e s) ≡ filter (member own.words) (range 0 limits.per_name)
    unfolding comprs_use propagate set_scope flagged names
    uses-listed =
        append-nil _ ∙ own-listed e s p.scope h.scope.sets tk takes own owned (foldl add_input flagged names) same-owns

    risen-whole : WholeState t spans (scoped p k) rs work (use_compr sheet (way w work p ws tk by own owned others d k put rs used sheet nested parents t spans s e is h) e (propagate sheet (way w work p ws tk by own owned others d k put rs used sheet nested parents t spans s e is h) s.scope e s))
    unfolding use_compr add_first_uses propagate set_scope flagged names use_input
    risen-whole = record {
      scope = record {
        sets = subst (λ (b : Bool). Sets k (foldl add_input (use_input b s.scope) names)) (sym takes.uses)
            (put s.scope h.scope.sets names (others_held e s p.scope h.scope.sets tk takes own owned others d));
        placed = λ x q m. h.scope.placed x q (ap (λ (l : List Span). spec.span_in l x) (sym joined.locals) ∙ m);
      };
      used-first = rw (uses-listed, is) (used s.first_uses h.used-first);
      rows = h.rows;
      table = h.table;
    }

  pub scope-risen : (r : Progress) → r ≡ scoped p k → Risen w work p ws r rs
  unfolding use_compr add_first_uses propagate set_scope
  scope-risen r is = record {
    count = ap (λ (q : Progress). q.count) is;
    wide = ap (λ (q : Progress). q.width) is;
    rises = λ sounds sheet nested parents t spans s e at h.
        let way = once_way sheet nested parents in
        let clear : s.run.fault ≡ sound = sym h.fault ∙ sound-is p.fault sounds in
        let now : Agree t spans (scoped p k) rs work (use_compr sheet way e (propagate sheet way s.scope e s)) = record {
          fault = h.fault;
          count = h.count;
          whole = λ z. risen-whole sheet nested parents t spans s e at (h.whole clear);
        } in
        rw (is, sound-rises sheet way s clear e) now;
  }
