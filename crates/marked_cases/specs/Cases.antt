-- Document 01's marked cases, and rows for the requests of 02: a change of the listing, an operation with its arguments and slices, and its result.
-- Assumes nothing.
use Rattle.std.specs.Prelude.{◌≡◌, List, [], ◌∷◌, map, ℕ}
use Rattle.tables.specs.Project.{Project, missing}
use Rattle.table.specs.Table.{with_records}
use Rattle.promises.specs.Changes.{with_imports, with_normal, with_newer}
use Rattle.marked_cases.specs.Listing.{listing}
use Rattle.marked_cases.specs.Calls.{Call, sort, circles, expected_order, entries_together, actual_order, chunk_labels, order_risk_of_an_entry, cycle_risk_of_an_entry, plan_from_seeds, whole_analysis, share_of_modules, grounds_of_modules, Outcome, outcome_of, lent_by}

pub record Case : Type 0 where
  pub on : Project
  pub call : Call
  pub gives : Outcome

-- a call that is accepted, with its count and the slices after it
abbrev pub accepts : Project → Call → ℕ → List (List ℕ) → Case
accepts p call count slices = record { on = p; call = call; gives = record { number = 0; count = count; slices = slices } }

-- a call that is refused: count 0, and its slices as they were
abbrev pub refuses : Project → Call → ℕ → List (List ℕ) → Case
refuses p call number slices = record { on = p; call = call; gives = record { number = number; count = 0; slices = slices } }

-- every case gives what it says
unfoldable pub AllHold : List Case → Type 0
AllHold cases = map (λ (c : Case). outcome_of (lent_by c.on) c.call) cases ≡ map (λ (c : Case). c.gives) cases

-- "with edge 1 to 0 added", "with edge 0 to 0 added", "module 3 external"
abbrev pub edge10 : Project
edge10 = with_imports listing (0 ∷ 1 ∷ []) (1 ∷ 0 ∷ [])

abbrev pub edge00 : Project
edge00 = with_imports listing (0 ∷ 0 ∷ []) (0 ∷ 1 ∷ [])

abbrev pub external3 : Project
external3 = with_normal listing (1 ∷ 1 ∷ 1 ∷ 0 ∷ [])

-- the listing with two scripts that import each other
abbrev pub ringed : Project
ringed = with_records listing (1 ∷ 2 ∷ []) (0 ∷ 0 ∷ []) (2 ∷ 1 ∷ [])

-- a slice that is lent: the places beyond the modules keep what stood there
abbrev pub lent : List ℕ
lent = 9 ∷ 8 ∷ 7 ∷ 6 ∷ 5 ∷ []

abbrev four : List ℕ
four = 9 ∷ 8 ∷ 7 ∷ 6 ∷ []

abbrev three : List ℕ
three = 9 ∷ 8 ∷ 7 ∷ []

abbrev two : List ℕ
two = 9 ∷ 8 ∷ []

unfoldable pub marked_cases : List Case
marked_cases =
    -- "the plan above"
    accepts listing (whole_analysis lent) 2 ((0 ∷ 1 ∷ 0 ∷ 1 ∷ 5 ∷ []) ∷ [])
    -- the listing's other printed lines, with "numbers 0 3 1 2"
    ∷ accepts listing (sort lent lent) 4 ((0 ∷ 3 ∷ 1 ∷ 2 ∷ 5 ∷ []) ∷ (0 ∷ 2 ∷ 3 ∷ 1 ∷ 5 ∷ []) ∷ [])
    ∷ accepts listing (expected_order 1 lent) 3 ((2 ∷ 3 ∷ 1 ∷ 6 ∷ 5 ∷ []) ∷ [])
    ∷ accepts listing (actual_order 1 lent lent) 4 ((0 ∷ 3 ∷ 2 ∷ 1 ∷ 5 ∷ []) ∷ (missing ∷ missing ∷ missing ∷ missing ∷ 5 ∷ []) ∷ [])
    -- the risk: early {3}, cycle {}
    ∷ accepts listing (order_risk_of_an_entry 1 lent) 1 ((0 ∷ 0 ∷ 0 ∷ 1 ∷ 5 ∷ []) ∷ [])
    ∷ accepts listing (cycle_risk_of_an_entry 1 lent) 0 ((0 ∷ 0 ∷ 0 ∷ 0 ∷ 5 ∷ []) ∷ [])
    -- the grounds: each of the three scripts has its own flag
    ∷ accepts listing (grounds_of_modules lent) 3 ((0 ∷ 1 ∷ 1 ∷ 1 ∷ 5 ∷ []) ∷ [])
    -- "plan from no seed, empty; from 0, empty; from 1, {1}; from 2, {1,2,3}"
    ∷ accepts listing (plan_from_seeds [] lent) 0 ((0 ∷ 0 ∷ 0 ∷ 0 ∷ 5 ∷ []) ∷ [])
    ∷ accepts listing (plan_from_seeds (0 ∷ []) lent) 0 ((0 ∷ 0 ∷ 0 ∷ 0 ∷ 5 ∷ []) ∷ [])
    ∷ accepts listing (plan_from_seeds (1 ∷ []) lent) 1 ((0 ∷ 1 ∷ 0 ∷ 0 ∷ 5 ∷ []) ∷ [])
    ∷ accepts listing (plan_from_seeds (2 ∷ []) lent) 3 ((0 ∷ 1 ∷ 1 ∷ 1 ∷ 5 ∷ []) ∷ [])
    -- "with edge 1 to 0 added, labels 0 0, and from 1, {1,2,3}"
    ∷ accepts edge10 (chunk_labels two) 2 ((0 ∷ 0 ∷ []) ∷ [])
    ∷ accepts edge10 (plan_from_seeds (1 ∷ []) lent) 3 ((0 ∷ 1 ∷ 1 ∷ 1 ∷ 5 ∷ []) ∷ [])
    -- "with edge 0 to 0 added, labels 0 and mark"
    ∷ accepts edge00 (chunk_labels two) 1 ((0 ∷ missing ∷ []) ∷ [])
    -- "module 3 external, expected order of 3 empty"
    ∷ accepts external3 (expected_order 3 lent) 0 (lent ∷ [])
    -- "root 4, refusal 5"
    ∷ refuses listing (expected_order 4 lent) 5 (lent ∷ [])
    ∷ refuses listing (actual_order 4 lent lent) 5 (lent ∷ lent ∷ [])
    ∷ refuses listing (order_risk_of_an_entry 4 lent) 5 (lent ∷ [])
    ∷ refuses listing (cycle_risk_of_an_entry 4 lent) 5 (lent ∷ [])
    -- "for the sort, output slices of 3, refusal 6, of 4, none"
    ∷ refuses listing (sort three three) 6 (three ∷ three ∷ [])
    ∷ accepts listing (sort four four) 4 ((0 ∷ 3 ∷ 1 ∷ 2 ∷ []) ∷ (0 ∷ 2 ∷ 3 ∷ 1 ∷ []) ∷ [])
    -- C-12: module 3 stands in the part of the first entry that reaches it; one entry; an external entry is passed over; an entry without a row
    ∷ accepts listing (entries_together (3 ∷ 1 ∷ 3 ∷ []) lent) 3 ((3 ∷ 2 ∷ 1 ∷ 6 ∷ 5 ∷ []) ∷ [])
    ∷ accepts listing (entries_together (1 ∷ []) lent) 3 ((2 ∷ 3 ∷ 1 ∷ 6 ∷ 5 ∷ []) ∷ [])
    ∷ accepts external3 (entries_together (3 ∷ 2 ∷ []) lent) 1 ((2 ∷ 8 ∷ 7 ∷ 6 ∷ 5 ∷ []) ∷ [])
    ∷ refuses listing (entries_together (1 ∷ 4 ∷ []) lent) 5 (lent ∷ [])
    -- C-11: no ring; a ring, which just fits; a slice of two places is too short for it, and so is one of none for its length
    ∷ accepts listing (circles two two) 0 (two ∷ two ∷ [])
    ∷ accepts ringed (circles lent lent) 1 ((1 ∷ 2 ∷ 1 ∷ 6 ∷ 5 ∷ []) ∷ (3 ∷ 8 ∷ 7 ∷ 6 ∷ 5 ∷ []) ∷ [])
    ∷ accepts ringed (circles three two) 1 ((1 ∷ 2 ∷ 1 ∷ []) ∷ (3 ∷ 8 ∷ []) ∷ [])
    ∷ refuses ringed (circles two lent) 8 (two ∷ lent ∷ [])
    ∷ refuses ringed (circles lent []) 8 (lent ∷ [] ∷ [])
    -- C-21: of three eligible modules two are planned
    ∷ accepts listing (share_of_modules lent) 4 ((3 ∷ 2 ∷ 666 ∷ 2 ∷ 5 ∷ []) ∷ [])
    ∷ refuses listing (share_of_modules three) 6 (three ∷ [])
    ∷ []

-- 02's replaced modules, on the same listing: 3 supersedes 2
abbrev pub replaced2 : Project
replaced2 = with_newer listing (missing ∷ missing ∷ 3 ∷ missing ∷ [])

-- a `newer` that isn't a later row: the row itself, an earlier one, none
abbrev pub newer_of2 : ℕ → Project
newer_of2 m = with_newer listing (missing ∷ missing ∷ m ∷ missing ∷ [])

unfoldable pub replaced_cases : List Case
replaced_cases =
    -- both records and both dependencies lead to 3; what is packed stays
    accepts replaced2 (sort lent lent) 3 ((0 ∷ 2 ∷ missing ∷ 1 ∷ 5 ∷ []) ∷ (0 ∷ 3 ∷ 1 ∷ 6 ∷ 5 ∷ []) ∷ [])
    ∷ accepts replaced2 (expected_order 1 lent) 2 ((3 ∷ 1 ∷ 7 ∷ 6 ∷ 5 ∷ []) ∷ [])
    ∷ accepts replaced2 (actual_order 1 lent lent) 4 ((0 ∷ 3 ∷ 2 ∷ 1 ∷ 5 ∷ []) ∷ (missing ∷ missing ∷ missing ∷ missing ∷ 5 ∷ []) ∷ [])
    -- an entry and a seed are read as written
    ∷ accepts replaced2 (expected_order 2 lent) 1 ((2 ∷ 8 ∷ 7 ∷ 6 ∷ 5 ∷ []) ∷ [])
    ∷ accepts replaced2 (plan_from_seeds (2 ∷ []) lent) 1 ((0 ∷ 0 ∷ 1 ∷ 0 ∷ 5 ∷ []) ∷ [])
    -- 10, and before 5 and 6
    ∷ refuses (newer_of2 2) (sort lent lent) 10 (lent ∷ lent ∷ [])
    ∷ refuses (newer_of2 1) (expected_order 4 lent) 10 (lent ∷ [])
    ∷ refuses (newer_of2 4) (sort three three) 10 (three ∷ three ∷ [])
    ∷ []
