-- How the code keeps the state of a query's analysis.
use Rattle.std.specs.Prelude.{◌≡◌, List, ℕ, ◌+◌, ◌-◌, ◌*◌, ◌/◌, ◌≤◌, ◌<◌, length, get_or, Option, Some}
use Rattle.names_width.specs.declared.Width.{Width}
use Rattle.names_width.specs.Inner.Widths.{row_words}
use Rattle.answer_blocks.specs.Inner.Layout.{answers_size}
use Rattle.definition.specs.States.{sound, State, if_sound}
use Rattle.scope_state.specs.declared.Scope.{Scope}
use Rattle.scope_state.specs.Inner.Spans.{Agrees}
use Rattle.definition_walk.specs.Inner.Firsts.{Firsts}
use Rattle.definition_state.specs.declared.Fault.{Fault}
use Rattle.definition_state.specs.declared.Progress.{Progress}
use Rattle.definition_state.specs.Inner.Faults.{meaning}
use Rattle.definition_state.specs.Inner.Held.{Held}
use Rattle.definition_state.specs.Inner.Table.{Table}

-- ---- room

-- So many words have room for k rows in front of the answers.
pub record Room (v : Width) (n k : ℕ) : Type 0 where
  pub enough : answers_size v ≤ n
  pub rows : k ≤ (n - answers_size v) / row_words v

-- ---- changes of one part

abbrev pub with_fault : Progress → Option Fault → Progress
with_fault p f = record { scope = p.scope; count = p.count; fault = f; width = p.width }

abbrev pub failed : Progress → Fault → Progress
failed p f = with_fault p (Some f)

abbrev pub scoped : Progress → Scope → Progress
scoped p k = record { scope = k; count = p.count; fault = p.fault; width = p.width }

abbrev pub with_count : Progress → ℕ → Progress
with_count p c = record { scope = p.scope; count = c; fault = p.fault; width = p.width }

-- f, unless there is a fault already.
abbrev pub guarded : (State → State) → State → State
guarded f s = if_sound s.run.fault f s

module _ (t : List ℕ) where
  -- While there is no fault: where the locals stand (`spans`), the first uses (`firsts`), the rows of definitions and the table (`work`).
  pub record WholeState (spans : List ℕ) (p : Progress) (firsts work : List ℕ) (s : State) : Type 0 where
    pub scope : Agrees p.scope spans s.scope
    pub used-first : Firsts firsts s.first_uses
    pub rows : Held p.width work p.count s.definitions
    pub table : Table p.width t work s.run.schedules

  -- The code's state is the state s. After a fault only the fault counts.
  pub record Agree (spans : List ℕ) (p : Progress) (firsts work : List ℕ) (s : State) : Type 0 where
    pub fault : meaning p.fault ≡ s.run.fault
    pub count : p.count ≤ length s.definitions
    pub whole : s.run.fault ≡ sound → WholeState spans p firsts work s

  -- ---- steps

  -- The rows that were there stay.
  pub record Grown (p : Progress) (work : List ℕ) (r : Progress) (work' : List ℕ) : Type 0 where
    pub long : length work' ≡ length work
    pub up : p.count ≤ r.count
    pub wide : r.width ≡ p.width
    pub before : (j : ℕ) → j < row_words p.width * p.count → get_or work' j 0 ≡ get_or work j 0

  -- From p to r the code does what f does.
  pub record Runs (f : State → State) (p : Progress) (firsts work : List ℕ) (r : Progress) (firsts' work' : List ℕ) : Type 0 where
    pub grown : Grown p work r work'
    pub agrees : (spans : List ℕ) (s : State) → Agree spans p firsts work s → Agree spans r firsts' work' (f s)

  -- There is a state that the code's is, and room for so many definitions more.
  pub record Ready (p : Progress) (firsts work : List ℕ) (more : ℕ) : Type 0 where
    pub spans : List ℕ
    pub state : State
    pub agrees : Agree spans p firsts work state
    pub room : Room p.width (length work) (length state.definitions + more)
