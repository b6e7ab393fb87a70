-- From one call to the next: what the code may rely on after a step, and what two steps do together.
use mathlib.Core.Path.{◌≡◌, subst}
use mathlib.Core.List.{List, ◌∷◌}
use Prim.Native.Nat.{ℕ, ◌+◌, ◌-◌, ◌*◌, ◌/◌, ◌≤◌}
use native.Mathlib.Nat.{mul-le-mul_left, div-mul-le_self}
use native.Mathlib.Omega.{arith}
use lib.ListN.{length}
use Rattle.names_width.specs.declared.Width.{Width}
use Rattle.names_width.specs.Inner.Widths as Widths
use Rattle.answer_blocks.specs.Inner.Layout.{answers_size}
use Rattle.scope.specs.Scopes.{Scope}
use Rattle.definition.specs.States.{sound, State}
use Rattle.definition_room.proofs.Laws.Adds.{Step, adds_length}
use Rattle.scope_walk.specs.Inner.Sheets.{sheet_at}
use Rattle.scope_state.specs.Inner.Spans.{Agrees}
use Rattle.scope_state.specs.Inner.Outers.{Outer}
use Rattle.definition_state.specs.declared.Progress.{Progress}
use Rattle.definition_state.proofs.Laws.Tails.{tail-rows}
use Rattle.definition_state.specs.Inner.Frames.{Room, Agree, Runs, Ready}
use Rattle.definition_state.proofs.Laws.Frames.{grown_then}
use Rattle.definition_steps.proofs.Laws.Guards.{was_sound}
use Rattle.definition_steps.proofs.Laws.Same.{same_scope_outer}
use Rattle.definition_steps.proofs.Laws.Keeps.{Keeps}
use Rattle.definition_cycle.specs.Inner.Sites.{SiteAt, Surrounds, Inside, Under, RunsIn, RunsUnder}

-- A step of the analysis: it adds at most n definitions, keeps the scope's own names, and is not done at a fault.
pub record Steady (t : List ℕ) (n : ℕ) (f : State → State) : Type 0 where
  pub below : ℕ
  pub adds : Step (sheet_at t) below n f
  pub keeps : Keeps f
  pub stays : (s : State) → (s.run.fault ≡ sound → ⊥) → f s ≡ s

-- Where there is room for k rows, there is room for fewer, in words.
room-words : (v : Width) (n k c : ℕ) → Room v n k → c ≤ k → Widths.row_words v * c + answers_size v ≤ n
room-words v n k c h l =
    let few : c ≤ (n - answers_size v) / Widths.row_words v = omega (arith, h.rows) in
    omega (arith, h.enough, mul-le-mul_left (Widths.row_words v) few, div-mul-le_self (n - answers_size v) (Widths.row_words v))

pub room-same : {v u : Width} {n m k : ℕ} → v ≡ u → n ≡ m → Room u m k → Room v n k
room-same e f h = rw (e, f) h

-- A nested query is lent the m words behind c rows, which are a words: there is room for the rows that are left.
pub room-behind : (v : Width) (n k c a : ℕ) → a ≡ Widths.row_words v * c → (more : ℕ) → Room v n k → a + answers_size v ≤ n → c + more ≤ k → (m : ℕ) → m ≡ n - a
    → Room v m more
room-behind v n k c a is more h low l m behind = rw behind (record {
  enough = omega arith;
  rows = rw is (omega (arith, h.rows, tail-rows v n c (omega arith)));
})

module _ (t : List ℕ) where
  -- ---- room

  abbrev pub at_less : (spans : List ℕ) (p : Progress) (fs w : List ℕ) (more m : ℕ) → m ≤ more → SiteAt t spans p fs w more → SiteAt t spans p fs w m
  at_less spans p fs w more m l h = record {
    query = h.query;
    from = h.from;
    to = h.to;
    parents = h.parents;
    state = h.state;
    agrees = h.agrees;
    room = record { enough = h.room.enough; rows = omega (arith, h.room.rows) };
  }

  abbrev pub inside_less : (inner : List ℕ) (p : Progress) (fs w : List ℕ) (more m : ℕ) → m ≤ more → Inside t inner p fs w more → Inside t inner p fs w m
  inside_less inner p fs w more m l h =
      record { spans = h.spans; at = at_less h.spans p fs w more m l h.at; around = h.around }

  abbrev pub under_less : (outer spans : List ℕ) (p : Progress) (fs w : List ℕ) (more m : ℕ) → m ≤ more → Under t outer spans p fs w more
      → Under t outer spans p fs w m
  under_less outer spans p fs w more m l h = record { at = at_less spans p fs w more m l h.at; beneath = h.beneath }

  -- What a function outside the cycle asks.
  abbrev pub at_ready : (spans : List ℕ) (p : Progress) (fs w : List ℕ) (more : ℕ) → SiteAt t spans p fs w more → Ready t p fs w more
  at_ready spans p fs w more h = record { spans = spans; state = h.state; agrees = h.agrees; room = record { enough = h.room.enough; rows = omega (arith, h.room.rows) } }

  -- There is room for the rows that there are, and for the table.
  pub at_rows : (spans : List ℕ) (p : Progress) (fs w : List ℕ) (more : ℕ) → SiteAt t spans p fs w more
      → Widths.row_words p.width * p.count + answers_size p.width ≤ length w
  at_rows spans p fs w more h = room-words p.width (length w) _ p.count h.room (omega (arith, h.agrees.count))

  -- ---- after a step

  abbrev pub at_next : (spans : List ℕ) (p r : Progress) (fs gs w v : List ℕ) (more n m k : ℕ) (f : State → State) → Step (sheet_at t) k n f
      → n + m ≤ more → length v ≡ length w → r.width ≡ p.width → (h : SiteAt t spans p fs w more) → Agree t spans r gs v (f h.state) → SiteAt t spans r gs v m
  at_next spans p r fs gs w v more n m k f adds l long wide h a = record {
    query = h.query;
    from = h.from;
    to = h.to;
    parents = h.parents;
    state = f h.state;
    agrees = a;
    room = room-same wide long (record { enough = h.room.enough; rows = omega (arith, h.room.rows, (adds_length (sheet_at t) (adds h.state)).1) });
  }

  -- The scopes around nested queries stay.
  pub around-next : (inner : List ℕ) (parents : List Scope) (n : ℕ) (f : State → State) → Steady t n f → (s : State)
      → Surrounds t inner parents s → Surrounds t inner parents (f s)
  around-next inner parents n f y s h e =
      same_scope_outer (y.keeps s) inner parents (h (was_sound s (f s) (y.stays s) e))

  abbrev pub inside-next : (inner : List ℕ) (p r : Progress) (fs gs w v : List ℕ) (more n m : ℕ) (f : List Scope → State → State)
      → ((parents : List Scope) → Steady t n (f parents)) → n + m ≤ more → RunsIn t inner f p fs w r gs v
      → Inside t inner p fs w more → Inside t inner r gs v m
  inside-next inner p r fs gs w v more n m f y l runs h =
      let a = h.at in
      let ps = a.parents in
      record {
        spans = h.spans;
        at = at_next h.spans p r fs gs w v more n m (y ps).below (f ps) (y ps).adds l runs.grown.long runs.grown.wide a
            (runs.agrees ps h.spans a.state h.around a.agrees);
        around = around-next inner ps n (f ps) (y ps) a.state h.around;
      }

  abbrev pub under_next : (outer spans : List ℕ) (p r : Progress) (fs gs w v : List ℕ) (more n m k : ℕ) (f : List Scope → State → State)
      → ((parents : List Scope) → Step (sheet_at t) k n (f parents)) → n + m ≤ more → RunsUnder t outer spans f p fs w r gs v
      → Under t outer spans p fs w more → Under t outer spans r gs v m
  under_next outer spans p r fs gs w v more n m k f adds l runs h =
      let a = h.at in
      let ps = a.parents in
      record {
        at = at_next spans p r fs gs w v more n m k (f ps) (adds ps) l runs.grown.long runs.grown.wide a (runs.agrees ps a.state h.beneath a.agrees);
        beneath = h.beneath;
      }

  -- ---- steps one after the other

  pub runs_in : (inner : List ℕ) (f : State → State) (p r : Progress) (fs gs w v : List ℕ) → Runs t f p fs w r gs v
      → RunsIn t inner (λ parents. f) p fs w r gs v
  runs_in inner f p r fs gs w v h = record { grown = h.grown; agrees = λ parents spans s o a. h.agrees spans s a }

  pub runs_in_then : (inner : List ℕ) (n : ℕ) (f g : List Scope → State → State) (p q r : Progress) (fs gs hs u v w : List ℕ)
      → ((parents : List Scope) → Steady t n (f parents)) → RunsIn t inner f p fs u q gs v → RunsIn t inner g q gs v r hs w
      → RunsIn t inner (λ parents s. g parents (f parents s)) p fs u r hs w
  runs_in_then inner n f g p q r fs gs hs u v w y a b = record {
    grown = grown_then t p q r u v w a.grown b.grown;
    agrees = λ parents spans s o h.
        b.agrees parents spans (f parents s) (around-next inner parents n (f parents) (y parents) s o) (a.agrees parents spans s o h);
  }

  pub runs-under : (outer spans : List ℕ) (f : State → State) (p r : Progress) (fs gs w v : List ℕ) → Runs t f p fs w r gs v
      → RunsUnder t outer spans (λ parents. f) p fs w r gs v
  runs-under outer spans f p r fs gs w v h = record { grown = h.grown; agrees = λ parents s o a. h.agrees spans s a }

  pub runs_under_then : (outer spans : List ℕ) (f g : List Scope → State → State) (p q r : Progress) (fs gs hs u v w : List ℕ)
      → RunsUnder t outer spans f p fs u q gs v → RunsUnder t outer spans g q gs v r hs w
      → RunsUnder t outer spans (λ parents s. g parents (f parents s)) p fs u r hs w
  runs_under_then outer spans f g p q r fs gs hs u v w a b = record {
    grown = grown_then t p q r u v w a.grown b.grown;
    agrees = λ parents s o h. b.agrees parents (f parents s) o (a.agrees parents s o h);
  }

  -- The same steps by another name.
  pub runs_in_as : (inner : List ℕ) (f g : List Scope → State → State) (p r : Progress) (fs gs w v : List ℕ)
      → ((parents : List Scope) (s : State) → f parents s ≡ g parents s) → RunsIn t inner f p fs w r gs v → RunsIn t inner g p fs w r gs v
  runs_in_as inner f g p r fs gs w v e h = record {
    grown = h.grown;
    agrees = λ parents spans s o a. subst (Agree t spans r gs v) (e parents s) (h.agrees parents spans s o a);
  }

  pub runs_under_as : (outer spans : List ℕ) (f g : List Scope → State → State) (p r : Progress) (fs gs w v : List ℕ)
      → ((parents : List Scope) (s : State) → f parents s ≡ g parents s) → RunsUnder t outer spans f p fs w r gs v
      → RunsUnder t outer spans g p fs w r gs v
  runs_under_as outer spans f g p r fs gs w v e h = record {
    grown = h.grown;
    agrees = λ parents s o a. subst (Agree t spans r gs v) (e parents s) (h.agrees parents s o a);
  }

  -- ---- from the scopes around a query to those around a nested one

  -- What `enclose` gives: the scope p has in front of the parents.
  abbrev pub Enclosing : List ℕ → List ℕ → Progress → List ℕ → Type 0
  Enclosing outer spans p inner = (parents : List Scope) → Outer outer parents → (sc : Scope) → Agrees p.scope spans sc → Outer inner (sc ∷ parents)

  abbrev pub under-inside : (outer spans inner : List ℕ) (p : Progress) (fs w : List ℕ) (more : ℕ) → Enclosing outer spans p inner
      → Under t outer spans p fs w more → Inside t inner p fs w more
  under-inside outer spans inner p fs w more e h = record {
    spans = spans;
    at = h.at;
    around = λ z. e h.at.parents h.beneath h.at.state.scope (h.at.agrees.whole z).scope;
  }

  pub inside_under : (outer spans inner : List ℕ) (f : List Scope → State → State) (p r : Progress) (fs gs w v : List ℕ)
      → Enclosing outer spans p inner → RunsIn t inner f p fs w r gs v → RunsUnder t outer spans f p fs w r gs v
  inside_under outer spans inner f p r fs gs w v e h = record {
    grown = h.grown;
    agrees = λ parents s o a. h.agrees parents spans s (λ z. e parents o s.scope (a.whole z).scope) a;
  }
