-- What holds at the loop of `try_statement`, and its two ways out.
use mathlib.Core.Path.{◌≡◌, refl, sym, ◌∙◌, fun_ext}
use mathlib.Core.Bool.{Bool, true, false}
use mathlib.Core.List.{List, Memᴰ}
use Prim.Native.Nat.{ℕ, ◌*◌, ◌<◌}
use lib.ListN.{length}
use Rattle.base.specs.Limits as limits
use Rattle.base.proofs.Laws.Truth.{not-both}
use borrow.Author.Tests.{not-true, not-false}
use Rattle.order.specs.Inner.Count.{missing}
use Rattle.base.specs.Sets.{member}
use Rattle.names.proofs.Laws.Laws.{all-members}
use Rattle.order.specs.Definitions.{Definition, of_statement, resolves, defines}
use Rattle.order.proofs.Laws.Resolving.{resolves-same}
use Rattle.order.proofs.Laws.Statements.{mem_statement, statement_mem, by-defines, defines-by}
use Rattle.order.specs.Call.{row_count, definitions}
use Rattle.order_rows.specs.Inner.Links.{chain_of}
use Rattle.order_rows.proofs.Laws.ChainMembers.{chain-listed, listed-chain}
use Rattle.order_resolve.specs.Inner.Pass.{gather, pass_of, Passes, Tries}
use Rattle.order_resolve.specs.declared.Passed.{Passed}
use Rattle.order_resolve.specs.declared.Passed.TheVariants.{Resolved, Grew, Stuck}
use Rattle.order_resolve.proofs.Laws.Closure.{gather_keeps}
use Rattle.order_resolve.proofs.Laws.Gathered.{GatheredNames, gathered-first, gathered_next, none-waits, all_known, one-waits}
use Rattle.order_resolve.proofs.Laws.Fewer.{fewer}

-- ---- what a pass comes to says of it

resolved-parts : (waiting grew : Bool) {more : Bool} → pass_of waiting grew ≡ Resolved more → waiting ≡ false
resolved-parts false grew e = refl
resolved-parts true true e = cc
resolved-parts true false e = cc

grew-parts : (waiting grew : Bool) → pass_of waiting grew ≡ Grew → grew ≡ true
grew-parts false grew e = cc
grew-parts true true e = refl
grew-parts true false e = cc

stuck-parts : (waiting grew : Bool) → pass_of waiting grew ≡ Stuck → (waiting ≡ true) × (grew ≡ false)
stuck-parts false grew e = cc
stuck-parts true true e = cc
stuck-parts true false e = (refl, refl)

-- The definitions of statement s, as they are linked.
abbrev whole : ℕ → List ℕ → ℕ → List Definition
whole w ws s = chain_of w ws s (row_count w ws)

-- The set seen is what passes from the names known have gathered.
abbrev pub Trying : ℕ → List ℕ → ℕ → List ℕ → List ℕ → Type 0
Trying w ws s known seen = GatheredNames (member known) (whole w ws s) (member seen)

module _ (w : ℕ) (ws : List ℕ) (s : ℕ) where
  -- The chain resolves as the statement's list does, and defines the same names.
  resolves-chain : (K : ℕ → Bool) → resolves K (whole w ws s) ≡ resolves K (of_statement s (definitions w ws))
  resolves-chain K = resolves-same K _ _ (chain-listed w ws s) (listed-chain w ws s)

  chain-defines : (d : Definition) → Memᴰ d (whole w ws s) → defines (definitions w ws) s d.var ≡ true
  chain-defines d m =
      let r = statement_mem s (definitions w ws) (chain-listed w ws s d m) in
      by-defines (definitions w ws) s d.var (record { listed = r.0; statement = r.1; var = refl })

  defines-chain : (x : ℕ) → defines (definitions w ws) s x ≡ true → (d : Definition) × Memᴰ d (whole w ws s) × (d.var ≡ x)
  defines-chain x h =
      let r = defines-by (definitions w ws) s x h in
      (r.0, listed-chain w ws s r.0 (mem_statement s (definitions w ws) r.1.listed r.1.statement), r.1.var)

module _ (w : ℕ) (ws : List ℕ) (s : ℕ) (known : List ℕ) where
  pub trying_first : Trying w ws s known known
  trying_first = gathered-first (member known) (whole w ws s)

  module _ {seen more : List ℕ} {p : Passed} (t : Trying w ws s known seen) (passes : Passes w ws s seen more p) where
    found : member more ≡ gather (whole w ws s) (member seen)
    found = fun_ext passes.gathered

    pub trying_next : Trying w ws s known more
    trying_next = rw found (gathered_next (member known) (whole w ws s) t)

    pub trying_less : 64 * length more ≡ limits.per_name → p ≡ Grew → missing limits.per_name (member more) < missing limits.per_name (member seen)
    trying_less size e =
        fewer seen more limits.per_name size (rw found (gather_keeps (whole w ws s) (member seen)))
        (not-true _ (grew-parts _ _ (sym passes.came-to ∙ e)))

    pub trying_resolved : {grew : Bool} → p ≡ Resolved grew → Tries w ws s known true more
    trying_resolved e =
        let settled = resolved-parts _ _ (sym passes.came-to ∙ e) in
        let K = member known in
        record {
          says = sym (sym (resolves-chain w ws s K) ∙ none-waits K (whole w ws s) t settled);
          knows = λ e x. passes.gathered x ∙ all_known K (whole w ws s) t settled (defines (definitions w ws) s) (chain-defines w ws s) (defines-chain w ws s) x;
          stays = λ e. absurd (not-both refl e);
        }

    pub trying_fails : p ≡ Stuck → Tries w ws s known false known
    trying_fails e =
        let stuck = stuck-parts _ _ (sym passes.came-to ∙ e) in
        let K = member known in
        let nothing = rw found at (all-members (member seen) more (not-false _ stuck.1)) in
        record {
          says = sym (sym (resolves-chain w ws s K) ∙ one-waits K (whole w ws s) t nothing stuck.0);
          knows = λ e. absurd (not-both e refl);
          stays = λ e. refl;
        }
