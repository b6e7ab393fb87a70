-- The Rust's repeats at brackets change nothing: what its own walk over an expression of statement i comes to is what the definitions of
-- `uses` say, which walk each expression once.
use mathlib.Core.Path.{◌≡◌, refl, sym, ap, ◌∙◌}
use mathlib.Core.Bool.{Bool, true, false, cond}
use mathlib.Core.List.{List, [], ◌∷◌, ◌++◌, map, foldl}
use mathlib.Core.Option.{none}
use Prim.Native.Nat.{ℕ}
use Rattle.base.specs.Lists.{filter, concat_map, any, find}
use Rattle.order.specs.Definitions.{Definition}
use Rattle.sheet.specs.declared.Row.{Row}
use Rattle.sheet.specs.Sheet.{Sheet, is_input}
use Rattle.scope.specs.Trees.{Tree}
use Rattle.scope.specs.Traverse.{traverse, vars, comprs}
use Rattle.scope.specs.Scopes.{Scope, Span, span_of}
use Rattle.definition.specs.Uses.{reads_input, is_undefined, undefined_var, is_use, variables_used, index_definitions, add_first_use}
use Rattle.original.specs.Inner.Settled.{Settled}
use Rattle.original.proofs.Laws.Settled.{settled-parts, foldl_concat_map}
use Rattle.original.proofs.Laws.Takers.{or_found, foldl_find, find-settled, first_uses-settled}
use Rattle.original.specs.Inner.Events.{seen_at, met_at, event_defines, vars_seen, comprs_met, definitions_made}
use Rattle.original.specs.Inner.RustWalk.{rust_walk}
use Rattle.original.proofs.Laws.RustWalk.{walk_once}
use Rattle.original.proofs.Laws.SameEvents.{same_read, same-any, rust_once}
use Rattle.original.proofs.Laws.OnceLists.{vars-once, comprs-once}
use Rattle.original.proofs.Laws.OnceSets.{definitions-once}

module _ (sheet : Sheet) (s : Scope) (extras : List ℕ) (i : ℕ) where
  -- It records the definitions that `index_definitions` lists, as a set: whatever is asked of them.
  pub rust_definitions : (t : Tree) (p : Definition → Bool)
      → any p (definitions_made (rust_walk sheet s extras i t)) ≡ any p (index_definitions sheet s extras i t)
  rust_definitions t p =
      same-any event_defines p (rust_walk sheet s extras i t) (walk_once sheet s extras i t) (rust_once sheet s extras i t)
      ∙ definitions-once sheet s extras i t p

  -- Whatever takes the variables in turn, and is not changed by one that it took before, comes to the same as over those of `traverse`.
  pub rust_vars : {S : Type 0} (step : S → Row → S) → Settled step → (t : Tree) (u : S)
      → foldl step u (vars_seen (rust_walk sheet s extras i t)) ≡ foldl step u (vars (traverse t))
  rust_vars step st t u =
      same_read seen_at step st (rust_walk sheet s extras i t) (walk_once sheet s extras i t) (rust_once sheet s extras i t) u
      ∙ ap (foldl step u) (vars-once sheet s extras i t)

  -- So do the comprehensions.
  pub rust_takes_comprs : {S : Type 0} (step : S → Tree → S) → Settled step → (t : Tree) (u : S)
      → foldl step u (comprs_met (rust_walk sheet s extras i t)) ≡ foldl step u (comprs t)
  rust_takes_comprs step st t u =
      same_read met_at step st (rust_walk sheet s extras i t) (walk_once sheet s extras i t) (rust_once sheet s extras i t) u
      ∙ ap (foldl step u) (comprs-once sheet s extras i t)

  -- Its first undefined variable is `undefined_var`.
  pub rust_undefined_var : (t : Tree) → find (is_undefined sheet s) (vars_seen (rust_walk sheet s extras i t)) ≡ undefined_var sheet s t
  unfolding undefined_var
  rust_undefined_var t =
      let p = is_undefined sheet s in
      sym (foldl_find p none (vars_seen (rust_walk sheet s extras i t)))
      ∙ rust_vars (or_found p) (find-settled p) t none
      ∙ foldl_find p none (vars (traverse t))

  -- It reads `input` if `reads_input` says so.
  pub rust_reads_input : (t : Tree)
      → any (λ (w : Row). is_input sheet w.name) (vars_seen (rust_walk sheet s extras i t)) ≡ reads_input sheet t
  unfolding reads_input
  rust_reads_input t =
      let p : Row → Bool = λ w. is_input sheet w.name in
      same-any seen_at p (rust_walk sheet s extras i t) (walk_once sheet s extras i t) (rust_once sheet s extras i t)
      ∙ ap (any p) (vars-once sheet s extras i t)

  -- First uses: those before the walk with the walk's added are those with `variables_used` added.
  pub rust_first_uses : (t : Tree) (uses : List Span)
      → foldl add_first_use uses (map span_of (filter (is_use sheet s extras) (vars_seen (rust_walk sheet s extras i t))))
      ≡ foldl add_first_use uses (map span_of (variables_used sheet s extras t))
  unfolding variables_used
  rust_first_uses t uses =
      spans (vars_seen (rust_walk sheet s extras i t))
      ∙ rust_vars (λ l w. foldl add_first_use l (spans_at w)) (settled-parts add_first_use spans_at first_uses-settled) t uses
      ∙ sym (spans (vars (traverse t)))
    where
      spans_at : Row → List Span
      spans_at w = cond (is_use sheet s extras w) (span_of w ∷ []) []

      listed : (l : List Row) → map span_of (filter (is_use sheet s extras) l) ≡ concat_map spans_at l
      listed [] = refl
      listed (w ∷ l) = go (is_use sheet s extras w) (listed l)
        where
          go : (b : Bool) → map span_of (filter (is_use sheet s extras) l) ≡ concat_map spans_at l
              → map span_of (cond b (w ∷ filter (is_use sheet s extras) l) (filter (is_use sheet s extras) l))
              ≡ cond b (span_of w ∷ []) [] ++ concat_map spans_at l
          go true h = ap (λ (k : List Span). span_of w ∷ k) h
          go false h = h

      spans : (l : List Row)
          → foldl add_first_use uses (map span_of (filter (is_use sheet s extras) l)) ≡ foldl (λ k w. foldl add_first_use k (spans_at w)) uses l
      spans l = ap (foldl add_first_use uses) (listed l) ∙ foldl_concat_map add_first_use spans_at uses l
