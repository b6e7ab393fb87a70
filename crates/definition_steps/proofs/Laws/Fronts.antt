-- The schedule that the analysis of a query puts in front of the table.
use mathlib.Core.Path.{◌≡◌, refl, sym, ap, ◌∙◌, subst}
use mathlib.Core.Bool.{true}
use mathlib.Core.List.{List, ◌∷◌, foldl, Memᴰ}
use Prim.Native.Nat.{ℕ, suc}
use lib.ListN.{length}
use lib.Dec.{ltb}
use Rattle.base.specs.Lists.{all}
use Rattle.sheet.specs.Sheet.{Sheet}
use Rattle.scope.specs.Trees.{Tree}
use Rattle.scope.specs.Statements.{stmts_of}
use Rattle.scope.proofs.Laws.TreeRows.{rows_pass}
use Rattle.scope.specs.Scopes.{Scope}
use Rattle.scope.specs.Inner.Below.{name_below}
use Rattle.definition.specs.States.{Fault, sound, undefined, used_before, lengths, index_variable, QuerySchedule, Run, State, if_sound}
use Rattle.definition.specs.Queries.{process_stmts, scheduled, analyze_output_expr, analyze_query}
use Rattle.definition_once.specs.Inner.OnceWay.{once_way, analyze_once}
use Rattle.definition_once.specs.Inner.Schedules.{EachSchedule}
use Rattle.definition_once.specs.Inner.Named.{NamesUnder}
use Rattle.definition_room.specs.Inner.Adds.{FitsSchedule}
use Rattle.definition_room.proofs.Laws.Adds.{AllFit}
use Rattle.definition_room.proofs.Laws.Queries.{start, analyze-fits}
use Rattle.definition_room.proofs.Laws.Sound.{Sound}
use Rattle.definition_state.specs.Inner.Table.{Low}
use Rattle.definition_steps.proofs.Laws.Lows.{analyze-low}

module _ (n : ℕ) (sheet : Sheet) (parents : List Scope) (q : ℕ) (outputs : List Tree) (r : Run) where
  -- The state at the end of the query, whose nested queries are analysed at level n.
  abbrev pub ended : State
  ended =
      foldl (analyze_output_expr sheet (once_way sheet (analyze_once n sheet) parents))
      (process_stmts sheet (once_way sheet (analyze_once n sheet) parents) 0 (stmts_of sheet q) (start sheet parents q outputs r)) outputs

  abbrev pub front : QuerySchedule
  front = record { query = q; scope = ended.scope; count = length (stmts_of sheet q); definitions = ended.definitions }

  pub analyze-ended : analyze_once (suc n) sheet parents q outputs r ≡ if_sound ended.run.fault (scheduled q (length (stmts_of sheet q)) ended) ended.run
  unfolding analyze_once analyze_query
  analyze-ended = refl

  pub analyze-faulty : (ended.run.fault ≡ sound → ⊥) → analyze_once (suc n) sheet parents q outputs r ≡ ended.run
  analyze-faulty faulty = analyze-ended ∙ go ended.run.fault faulty
    where
      go : (x : Fault) → (x ≡ sound → ⊥) → if_sound x (scheduled q (length (stmts_of sheet q)) ended) ended.run ≡ ended.run
      go sound f = absurd (f refl)
      go (undefined l c) f = refl
      go (used_before l c) f = refl
      go (lengths l c) f = refl
      go index_variable f = refl

  module _ (fine : Sound ended) where
    pub analyze-sound : analyze_once (suc n) sheet parents q outputs r ≡ record { schedules = front ∷ ended.run.schedules; fault = sound }
    unfolding scheduled
    analyze-sound = analyze-ended ∙ ap (λ (x : Fault). if_sound x (scheduled q (length (stmts_of sheet q)) ended) ended.run) fine

    front-there : Memᴰ front (analyze_once (suc n) sheet parents q outputs r).schedules
    front-there = subst (λ (u : Run). Memᴰ front u.schedules) (sym analyze-sound) (Memᴰ.head refl)

    pub front_fits : AllFit sheet r → FitsSchedule sheet front
    front_fits fit = analyze-fits (suc n) sheet parents q outputs r fit front front-there

    pub front_low : (m : ℕ) → ltb 0 m ≡ true → NamesUnder m sheet → all (rows_pass (name_below m)) outputs ≡ true → EachSchedule (Low m) r.schedules → Low m front.scope front.definitions
    front_low m zero names rows low = analyze-low m zero sheet names (suc n) parents q outputs r rows low front front-there
