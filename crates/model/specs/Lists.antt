-- What the definitions use that document 01 takes for granted: a choice by a test, and functions on lists.
use Rattle.std.specs.Prelude.{ℕ, if◌then◌else◌, ◌+◌, ◌-◌, Bool, true, false, ◌&&◌, ◌||◌, List, [], ◌∷◌, ◌++◌, ltb, eqb, length, get_or, take, drop}
use Rattle.std.proofs.Math.Option.{Option, some, none}

module _ {A : Type 0} where
  -- what f makes of a value, or d where there is none
  abbrev pub option : {B : Type 0} → Option A → B → (A → B) → B
  option none d f = d
  option (some x) d f = f x

  -- the test holds of each element
  abbrev pub every : (A → Bool) → List A → Bool
  every f [] = true
  every f (x ∷ l) = f x && every f l

  -- the test holds of some element
  abbrev pub any : (A → Bool) → List A → Bool
  any f [] = false
  any f (x ∷ l) = f x || any f l

  -- the elements of which the test holds
  abbrev pub select : (A → Bool) → List A → List A
  select f [] = []
  select f (x ∷ l) = if f x then x ∷ select f l else select f l

  -- the list without its last element
  abbrev pub without_last : List A → List A
  without_last l = take (length l - 1) l

  -- two lists have equally many elements, and the test holds of each two that stand in the same place
  abbrev pub same_by : (A → A → Bool) → List A → List A → Bool
  same_by test [] [] = true
  same_by test [] (y ∷ m) = false
  same_by test (x ∷ l) [] = false
  same_by test (x ∷ l) (y ∷ m) = test x y && same_by test l m

  -- new elements in the place of the first of the old ones, and the later old ones unchanged
  abbrev pub overlay : List A → List A → List A
  overlay new old = new ++ drop (length new) old

-- 1 for yes, 0 for no
abbrev pub bit : Bool → ℕ
bit true = 1
bit false = 0

-- how many elements the test holds of
abbrev pub count : (ℕ → Bool) → List ℕ → ℕ
count f [] = 0
count f (x ∷ l) = bit (f x) + count f l

-- all elements added up
abbrev pub sum : List ℕ → ℕ
sum [] = 0
sum (x ∷ l) = x + sum l

-- x is an element
abbrev pub contains : List ℕ → ℕ → Bool
contains [] x = false
contains (y ∷ l) x = eqb y x || contains l x

-- the last element, or 0
abbrev pub last_of : List ℕ → ℕ
last_of l = get_or l (length l - 1) 0

-- each element is above the one before it, and the first above lo
abbrev pub rising_from : ℕ → List ℕ → Bool
rising_from lo [] = true
rising_from lo (x ∷ l) = ltb lo x && rising_from x l

-- the elements strictly rise
abbrev pub rising : List ℕ → Bool
rising [] = true
rising (x ∷ l) = rising_from x l

-- two lists are equal
abbrev pub same : List ℕ → List ℕ → Bool
same l m = same_by eqb l m
