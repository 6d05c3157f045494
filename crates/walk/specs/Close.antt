-- The least set of places that holds a given one and is closed under a rule: rounds of the rule, as many as there are places.
-- Assumes nothing.
use Rattle.std.specs.Prelude.{◌≡◌, Bool, true, false, List, [], ◌∷◌, ℕ, zero, suc, ◌≤◌, ◌<◌, length, get_or}
use Rattle.lists.specs.Words.{has}

-- a mark stays where it is, and is 1 where the rule asks for its place
abbrev pub mark : Bool → ℕ → ℕ
mark b (suc n) = suc n
mark true zero = 1
mark false zero = 0

abbrev pub round_from : (ℕ → Bool) → ℕ → List ℕ → List ℕ
round_from asks i [] = []
round_from asks i (x ∷ xs) = mark (asks i) x ∷ round_from asks (suc i) xs

module _ (rule : List ℕ → ℕ → Bool) where
  -- one round: a place is in where it was in or the rule asks for it
  abbrev pub round : List ℕ → List ℕ
  round s = round_from (rule s) zero s

  unfoldable pub rounds : ℕ → List ℕ → List ℕ
  rounds zero s = s
  rounds (suc k) s = rounds k (round s)

  unfoldable pub close : List ℕ → List ℕ
  close s = rounds (length s) s

-- every member of s is one of t
unfoldable pub Within : List ℕ → List ℕ → Type 0
Within s t = (i : ℕ) → has s i ≡ true → has t i ≡ true

-- every place that the rule asks for is in
unfoldable pub Closed : (List ℕ → ℕ → Bool) → List ℕ → Type 0
Closed rule s = (i : ℕ) → i < length s → rule s i ≡ true → has s i ≡ true

-- a rule that asks for no less where more is in
unfoldable pub Monotone : (List ℕ → ℕ → Bool) → Type 0
Monotone rule = (s t : List ℕ) → length s ≡ length t → Within s t → (i : ℕ) → rule s i ≡ true → rule t i ≡ true

-- each mark is 0 or 1
unfoldable pub Bits : List ℕ → Type 0
Bits s = (i : ℕ) → get_or s i 0 ≤ 1
