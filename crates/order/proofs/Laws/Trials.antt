-- The specification's trial lists of definitions, with the placed mark, order and reached marks that it gives for each: one test, one fact.
use mathlib.Core.Path.{◌≡◌, refl}
use mathlib.Core.Bool.{Bool, true, false, ◌&&◌, beq}
use mathlib.Core.List.{List, [], ◌∷◌, map}
use Prim.Native.Nat.{ℕ}
use lib.Dec.{eqb}
use Rattle.base.specs.Lists.{all, range}
use Rattle.order.specs.Definitions.{Definition, resolves}
use Rattle.order.specs.Turns.{round, placements, placed, order, reached}

-- Definitions of `count` statements, and the answer: the placed mark, the order, and the reached mark of each statement.
pub record ListTrial : Type 0 where
  pub definitions : List Definition
  pub count : ℕ
  pub placed : Bool
  pub order : List ℕ
  pub reached : List Bool

-- Are two lists equal, by a test of their elements?
abbrev same : {A : Type 0} → (A → A → Bool) → List A → List A → Bool
same eq [] [] = true
same eq [] (y ∷ l) = false
same eq (x ∷ k) [] = false
same eq (x ∷ k) (y ∷ l) = eq x y && same eq k l

-- Does the turn rule over 128 names give what the trial says?
abbrev pub list_passes : ListTrial → Bool
list_passes t =
    beq (placed t.definitions t.count 128) t.placed
    && (same eqb (order t.definitions t.count 128) t.order
    && same beq (map (reached t.definitions t.count 128) (range 0 t.count)) t.reached)

-- Statement i defines v, using the names u.
abbrev define : ℕ → ℕ → List ℕ → Definition
define i v u = record { statement = i; var = v; used = u }

-- The names of the trials: e is the empty name.
abbrev e : ℕ
e = 0

abbrev a : ℕ
a = 1

abbrev b : ℕ
b = 2

abbrev x : ℕ
x = 24

abbrev y : ℕ
y = 25

-- A trial: definitions, statement count, placed mark, order, reached marks.
abbrev trial : List Definition → ℕ → Bool → List ℕ → List Bool → ListTrial
trial d n p o r = record { definitions = d; count = n; placed = p; order = o; reached = r }

-- Each trial under its words: `x<-y` defines x using y.
abbrev pub list_trials : List ListTrial
list_trials =
    -- none: placed
    trial [] 0 true [] []
    -- 0:{x<-x}: unplaced
    ∷ trial (define 0 x (x ∷ []) ∷ []) 1 false (0 ∷ []) (false ∷ [])
    -- 0:{x<-y, y<-}: placed
    ∷ trial (define 0 x (y ∷ []) ∷ define 0 y [] ∷ []) 1 true (0 ∷ []) (true ∷ [])
    -- 0:{x<-y} 1:{y<-}: 1, 0
    ∷ trial (define 0 x (y ∷ []) ∷ define 1 y [] ∷ []) 2 true (1 ∷ 0 ∷ []) (true ∷ true ∷ [])
    -- 0:{x<-y} 1:{y<-x} 2:{e<-}: unplaced, only 2 reached
    ∷ trial (define 0 x (y ∷ []) ∷ define 1 y (x ∷ []) ∷ define 2 e [] ∷ []) 3 false (0 ∷ 1 ∷ 2 ∷ []) (false ∷ false ∷ true ∷ [])
    -- 0:{b<-} 1:{a<-} 2:{e<-a}: 1, 2, 0
    ∷ trial (define 0 b [] ∷ define 1 a [] ∷ define 2 e (a ∷ []) ∷ []) 3 true (1 ∷ 2 ∷ 0 ∷ []) (true ∷ true ∷ true ∷ [])
    -- 0:{} 1:{x<-}: unplaced, only 1 reached
    ∷ trial (define 1 x [] ∷ []) 2 false (0 ∷ 1 ∷ []) (false ∷ true ∷ [])
    ∷ []

-- All of them pass.
pub list_trials-pass : all list_passes list_trials ≡ true
unfolding resolves round placements range
list_trials-pass = refl
