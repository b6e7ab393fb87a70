-- What holds at the test of the loop of `pass`: what is left of the chain, passed over from the set seen, gives what the whole pass gives.
use mathlib.Core.Path.{◌≡◌, sym, ap, ap₂, ◌∙◌, fun_ext}
use mathlib.Core.Bool.{Bool, true, false, not, ◌||◌, or_assoc, or-true, or-false}
use mathlib.Core.List.{List, ◌∷◌}
use Prim.Native.Nat.{ℕ, suc, ◌+◌, ◌≤◌, ◌<◌}
use native.Mathlib.Numerals.{add-one}
use native.Mathlib.Omega.{arith}
use lib.ListN.{get_or}
use Rattle.base.specs.Limits as limits
use Rattle.base.specs.Lists.{all}
use Rattle.base.specs.Sets.{member, members}
use Rattle.names.specs.Inner.Sets.{Inserted}
use Rattle.order.specs.Definitions.{Definition}
use Rattle.order.specs.Call.{row_count, var_at, used_words_at, definition_at}
use Rattle.order_rows.specs.Inner.Links.{last_of, chain_of, Linked}
use Rattle.order_rows.proofs.Laws.ChainLaws.{last_leads, last_row_lem, definitions_chain_row, definitions_chain_none}
use Rattle.order_resolve.specs.Inner.Pass.{gain, gather, waits, grows, pass_of, Passes}

pub record Passing (w : ℕ) (ws : List ℕ) (s : ℕ) (start : List ℕ) (at : ℕ) (seen : List ℕ) (waiting : Bool) : Type 0 where
  pub high : at ≤ row_count w ws
  pub last : last_of w ws s at ≡ at
  pub gathers : gather (chain_of w ws s at) (member seen) ≡ gather (chain_of w ws s (row_count w ws)) (member start)
  pub waited : (waiting || waits (chain_of w ws s at) (member seen)) ≡ waits (chain_of w ws s (row_count w ws)) (member start)

module _ (w : ℕ) (ws first next : List ℕ) (linked : Linked w ws first next) (s : ℕ) (start : List ℕ) where
  -- Before the loop.
  pub passing_first : s < limits.most_statements → Passing w ws s start (get_or first s 0) start false
  passing_first h =
      let leads = last_leads w ws s (row_count w ws) in
      rw (linked.head s h) (record {
        high = leads.below;
        last = leads.last;
        gathers = ap (λ (c : List Definition). gather c (member start)) (sym leads.chain);
        waited = ap (λ (c : List Definition). waits c (member start)) (sym leads.chain);
      })

  module _ {at : ℕ} {seen : List ℕ} {waiting : Bool} (p : Passing w ws s start at seen waiting) where
    -- After the loop.
    pub passing_end : at ≡ 0 → {grew : Bool} → grew ≡ grows start seen → Passes w ws s start seen (pass_of waiting grew)
    passing_end e fresh =
        let none = ap (chain_of w ws s) e ∙ definitions_chain_none w ws s in
        record {
          gathered = λ x. ap (λ (f : ℕ → Bool). f x) (ap (λ (c : List Definition). gather c (member seen)) (sym none) ∙ p.gathers);
          came-to = ap₂ pass_of (sym (or-false waiting) ∙ ap (λ (c : List Definition). waiting || waits c (member seen)) (sym none) ∙ p.waited) fresh;
        }

    -- In a turn: `at` is row k, counted from 1.
    module _ (k : ℕ) (is : at ≡ k + 1) where
      one : at ≡ suc k
      one = is ∙ add-one k

      here : last_of w ws s (suc k) ≡ suc k
      here = rw one at p.last

      leads_on : get_or next k 0 ≡ last_of w ws s k
      leads_on = linked.follow k (omega (arith, p.high)) ∙ ap (λ (t : ℕ). last_of w ws t k) (last_row_lem w ws s k here)

      first-row : chain_of w ws s at ≡ definition_at w ws k ∷ chain_of w ws s (last_of w ws s k)
      first-row = ap (chain_of w ws s) one ∙ definitions_chain_row w ws s k here

      -- After the turn, if the set and the flag are as the pass over the row's definition leaves them.
      turn : {more : List ℕ} {waits-now : Bool} → member more ≡ gain (member seen) (definition_at w ws k)
          → waits-now ≡ (waiting || not (all (member seen) (members (used_words_at w ws k)))) → Passing w ws s start (get_or next k 0) more waits-now
      turn {more} {waits-now} set flag =
          let leads = last_leads w ws s k in
          let rest = chain_of w ws s (last_of w ws s k) in
          rw leads_on (record {
            high = omega (arith, leads.below, p.high);
            last = leads.last;
            gathers = ap (gather rest) set ∙ ap (λ (c : List Definition). gather c (member seen)) (sym first-row) ∙ p.gathers;
            waited = ap₂ (λ (w : Bool) (S : ℕ → Bool). w || waits rest S) flag set ∙ or_assoc waiting _ _
                ∙ ap (λ (c : List Definition). waiting || waits c (member seen)) (sym first-row) ∙ p.waited;
          })

      pub passing_waits : all (member seen) (members (used_words_at w ws k)) ≡ false → Passing w ws s start (get_or next k 0) seen true
      passing_waits fails = turn (rw fails) (rw fails (sym (or-true waiting)))

      pub passing_adds : all (member seen) (members (used_words_at w ws k)) ≡ true → {more : List ℕ} → Inserted seen (var_at w ws k) more
          → Passing w ws s start (get_or next k 0) more waiting
      passing_adds holds i = turn (rw holds (fun_ext i.has)) (rw holds (sym (or-false waiting)))
