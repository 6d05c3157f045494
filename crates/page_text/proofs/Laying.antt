-- The written places are the places in the two orders.
-- Assumes nothing.
use Rattle.std.specs.Prelude.{◌≡◌, Option, Some, None, ℕ, ◌+◌, ◌<◌, ◌≤◌, eqb, List, [], ◌∷◌, ◌++◌, map, length, get_or, take, replicate}
use mathlib.Core.Path.{sym, ap, ap₂, subst, ◌∙◌}
use mathlib.Core.Logic.{⊎_elim}
use mathlib.Core.List.Memᴰ
use mathlib.Core.List.{flat_map, Memᴰ}
use native.Mathlib.Omega.{arith}
use lib.ListN.{get_or-eq_default, length-append}
use lib.Seq.{length-take-le}
use Rattle.lists.specs.Words.{has, elem}
use Rattle.lists.proofs.Laws.{both, mem-keep}
use Rattle.lists.proofs.Members.{get_d-mem}
use Rattle.lists.proofs.Distinct.{few-distinct}
use Rattle.lists.proofs.Fronts.{take-zeros}
use Rattle.lists.proofs.Maps.{flat-cong, map-cong}
use Rattle.tables.specs.Refusal.{module_limit}
use Rattle.tables.specs.Accepted.{Below}
use Rattle.tables.proofs.Accepted.{below-mem}
use Rattle.risk_of_orders.specs.inner.Early.{rank}
use Rattle.risk_of_orders.specs.inner.Steps.{Ranked, Order}
use Rattle.form.proofs.Fields.{split}
use Rattle.page_lines.specs.Line.{line_by}
use Rattle.page_rows.specs.Rows.{others_of, modules_of}
use Rattle.page_rows.specs.inner.Steps.{Laid}
use Rattle.page_rows.proofs.Once.{each-once}
use Rattle.page_text.specs.Page.{place_in, line_of, line_at, page_by, text_by, text_room}
use Rattle.page_text.specs.inner.Sheets.{SheetRows, line_with, page_with, numbered_with, text_with, Sheet, Orders}
use Rattle.page_text.proofs.Lines.{lines-append}

-- a place, from 1, is at most the length
pub place-within : (order : List ℕ) (m : ℕ) → place_in order m ≤ length order
place-within [] m = omega arith
place-within (y ∷ order) m =
    ⊎_elim (λ e. rw e (omega arith))
    (λ e. rw e (⊎_elim (λ q. let h = place-within order m in rw q (omega (arith, rw q at h))) (λ q. rw q (omega arith)) (both (elem m order))))
    (both (eqb m y))

module _ (order places : List ℕ) (n : ℕ) (o : Order order n) (l : length places ≡ n) (r : Ranked order places) where
  ranked-at : (m : ℕ) → m < n → get_or places m 0 ≡ place_in order m
  unfolding Ranked rank
  ranked-at m h = r m (omega arith)

  ranked-few : (m : ℕ) → get_or places m 0 ≤ module_limit
  ranked-few m =
      ⊎_elim (λ h. omega (arith, ranked-at m h, place-within order m, o.few)) (λ h. omega (arith, get_or-eq_default places 0 {n = m} (omega arith))) (split m n)

-- the places are written to fresh arrays
module _ (n : ℕ) (few : n ≤ module_limit) where
  fresh-length : length {A = ℕ} (take n (replicate module_limit 0)) ≡ n
  fresh-length = length-take-le n (replicate module_limit 0) few

  pub fresh-zeros : take {A = ℕ} n (replicate module_limit 0) ≡ replicate (length {A = ℕ} (take n (replicate module_limit 0))) 0
  fresh-zeros = take-zeros n module_limit few ∙ ap (λ (k : ℕ). replicate k 0) (sym fresh-length)

-- the places and the others by which an entry's lines can be written
pub record Ready (actual : List ℕ) (r : SheetRows) : Type 0 where
  pub sheet : Sheet r.expected_places r.actual_places r.plan
  pub rows : Below (length r.plan) r.expected × Below (length r.plan) r.others
  -- the lines fit where each module has room for one
  pub room : (number : Option ℕ) (k : ℕ) → text_room (length r.plan) number ≤ k → text_room (length r.expected + length r.others) number ≤ k
  pub text : (number : Option ℕ) → text_with r number ≡ text_by r.expected actual (has r.plan) number

-- what was laid out in them
module _ (plan : List ℕ) {expected actual expected_places actual_places held : List ℕ} {count : ℕ} (o : Orders expected actual (length plan))
    (e : length expected_places ≡ length {A = ℕ} (take (length plan) (replicate module_limit 0))) (a : length actual_places ≡ length {A = ℕ} (take (length plan) (replicate module_limit 0)))
    (w : Laid expected actual expected_places actual_places held count) where
  abbrev n : ℕ
  n = length plan

  expected_rows : length expected_places ≡ n
  expected_rows = e ∙ fresh-length n o.few

  actual_rows : length actual_places ≡ n
  actual_rows = a ∙ fresh-length n o.few

  abbrev sheet : SheetRows
  sheet = record { expected = expected; others = take count held; expected_places = expected_places; actual_places = actual_places; plan = plan }

  abbrev laid : ℕ → List ℕ
  laid = line_with sheet

  -- a line by the written places is the line
  line_same : (m : ℕ) → m < n → laid m ≡ line_of expected actual (has plan) m
  unfolding line_with line_of
  line_same m l =
      ap₂ (λ (i j : ℕ). line_by m i j (has plan m))
      (ranked-at expected expected_places n o.expected_order expected_rows w.expected_ranks m l)
      (ranked-at actual actual_places n o.actual_order actual_rows w.actual_ranks m l)

  other-in : {x : ℕ} → Memᴰ x (others_of expected actual) → x < n
  unfolding others_of
  other-in h = below-mem actual o.actual_order.members (mem-keep _ actual h).0

  other-rows : Below n (take count held)
  other-rows i l = other-in (subst (Memᴰ (get_or (take count held) i 0)) w.rest (get_d-mem (take count held) i l))

  row_in : (x : ℕ) → Memᴰ x (expected ++ others_of expected actual) → x < n
  row_in x h = ⊎_elim (λ t. below-mem expected o.expected_order.members t) other-in (Memᴰ.append_cases expected h)

  lines_fit : length expected + length (take count held) ≤ n
  unfolding modules_of
  lines_fit =
      omega (
        arith,
        ap length w.rest,
        length-append expected (others_of expected actual),
        few-distinct n (modules_of expected actual) (each-once expected actual o.expected_order.once o.actual_order.once) row_in,
      )

  page-same : page_with sheet ≡ page_by expected actual (has plan)
  unfolding page_by modules_of
  page-same =
      sym (lines-append laid expected (take count held))
      ∙ ap (λ (xs : List ℕ). flat_map laid (expected ++ xs)) w.rest
      ∙ flat-cong laid (line_of expected actual (has plan)) (expected ++ others_of expected actual) (λ x h. line_same x (row_in x h))

  numbered-same : (number : ℕ) → numbered_with sheet number ≡ line_at expected actual (has plan) number
  unfolding line_at modules_of
  numbered-same number =
      ap (λ (xs : List ℕ). get_or (map laid (expected ++ xs)) number []) w.rest
      ∙ ap (λ (ls : List (List ℕ)). get_or ls number []) (map-cong laid (line_of expected actual (has plan)) (expected ++ others_of expected actual) (λ x h. line_same x (row_in x h)))

  room-same : (number : Option ℕ) (k : ℕ) → text_room n number ≤ k → text_room (length expected + length (take count held)) number ≤ k
  room-same None k h = omega (arith, lines_fit)
  room-same (Some number) k h = h

  text-same : (number : Option ℕ) → text_with sheet number ≡ text_by expected actual (has plan) number
  text-same None = page-same
  text-same (Some number) = numbered-same number

  pub laid-ready : Ready actual sheet
  laid-ready = record {
    sheet = record {
      few = o.few;
      expected_rows = expected_rows;
      actual_rows = actual_rows;
      expected_few = ranked-few expected expected_places n o.expected_order expected_rows w.expected_ranks;
      actual_few = ranked-few actual actual_places n o.actual_order actual_rows w.actual_ranks;
    };
    rows = (o.expected_order.members, other-rows);
    room = room-same;
    text = text-same;
  }
