-- What meeting a module rests on: the module is begun, its rows are followed, and it takes its number.
-- Assumes nothing.
use Rattle.std.specs.Prelude.{◌≡◌, ℕ, zero, suc, ◌+◌, ◌-◌, ◌*◌, ◌<◌, ◌≤◌, true, eqb, List, [], ◌∷◌, length, get_or, take, set}
use mathlib.Core.Path.{sym, ap, subst, ◌∙◌}
use mathlib.Core.Logic.{⊎_elim}
use mathlib.Core.List.{flat_map}
use native.Mathlib.Decide.{dec_lt}
use native.Mathlib.Numerals.{add-one}
use native.Mathlib.Omega.{arith}
use lib.ListN.{length-set, length-append, get_or-eq_default}
use lib.Seq.{take-suc, take-suc-set, length-take-le}
use borrow.Author.Tests.{eq-eqb, ne_eqb}
use Rattle.lists.specs.Words.{zeros, count_from}
use Rattle.lists.proofs.Laws.{both}
use Rattle.walk.proofs.Visits.{set-zeros, fresh-zero, fresh-not}
use Rattle.tables.specs.Project.{missing}
use Rattle.tables.specs.Refusal.{row_limit}
use Rattle.sort_steps.proofs.Rows.{unless-missing, unless-one}
use Rattle.circle_search.specs.Circles.{front, path_to}
use Rattle.circle_search.specs.inner.Search.{Held, is_new, enter, Searches}
use Rattle.circle_search.proofs.Searches.{Kept, Going, going-none, going-found, front-snoc, met-kept, met-keeps, met-room, new-met, open-met, done-met}
use Rattle.circle_rows.specs.Rows.{led_row}
use Rattle.circle_visit.specs.Visit.{Listed, listed, write, led_by, held, Leads, Room}

row-few : (led : List ℕ) (row : ℕ) → length (led_row led row) ≤ 1
row-few led row =
    let t = get_or led row 0 in
    ⊎_elim (λ e. rw (unless-missing t e) (omega arith)) (λ e. rw (unless-one t e) (omega arith)) (both (eqb t missing))

pub rows_few : (led : List ℕ) (i n : ℕ) → length (flat_map (led_row led) (count_from i n)) ≤ n
unfolding flat_map
rows_few led i zero = omega arith
rows_few led i (suc n) = omega (arith, length-append (led_row led i) (flat_map (led_row led) (count_from (suc i) n)), row-few led i, rows_few led (suc i) n)

-- a module has no more rows than there are
pub targets-few : {starts led : List ℕ} {n : ℕ} → Leads starts led n → (m : ℕ) → length (led_by starts led m) ≤ row_limit
unfolding led_by
targets-few {starts} {led} l m = go (dec_lt (m + 1) (length starts))
  where
    few : length (flat_map (led_row led) (count_from (get_or starts m 0) (get_or starts (m + 1) 0 - get_or starts m 0))) ≤ get_or starts (m + 1) 0 - get_or starts m 0
    few = rows_few led (get_or starts m 0) (get_or starts (m + 1) 0 - get_or starts m 0)

    go : Dec (m + 1 < length starts) → length (flat_map (led_row led) (count_from (get_or starts m 0) (get_or starts (m + 1) 0 - get_or starts m 0))) ≤ row_limit
    go (yes h) = omega (arith, few, l.ends (m + 1) h, l.rows)
    go (no h) = omega (arith, few, get_or-eq_default starts 0 {n = m + 1} (omega arith))

-- a module with no new state: a begun one closes a path, and one that has a number is passed
module _ (starts led states stack : List ℕ) (depth : ℕ) (paths lengths : List ℕ) (count used m : ℕ) where
  abbrev at_entry : Held Listed
  at_entry = held states stack depth paths lengths count used

  pub path_closed : (paths' lengths' : List ℕ) (count' used' : ℕ) → get_or states m 0 ≡ 1
      → listed paths' lengths' count' used' ≡ write (listed paths lengths count used) (path_to m (take depth stack))
      → Searches (led_by starts led) write (held states stack depth paths lengths count used) (m ∷ []) (held states stack depth paths' lengths' count' used')
  path_closed paths' lengths' count' used' o q =
      subst (λ (a : Listed). Searches (led_by starts led) write at_entry (m ∷ []) (record { states = states; begun = take depth stack; made = a })) (sym q)
      (open-met (led_by starts led) write at_entry m (fresh-not states m (λ z. omega (arith, z, o))) (eq-eqb (get_or states m 0) 1 o))

  pub number_passed : (get_or states m 0 ≡ 0 → ⊥) → (get_or states m 0 ≡ 1 → ⊥)
      → Searches (led_by starts led) write (held states stack depth paths lengths count used) (m ∷ []) (held states stack depth paths lengths count used)
  number_passed z o = done-met (led_by starts led) write at_entry m (fresh-not states m z) (ne_eqb (get_or states m 0) 1 o)

-- the rows in turn
module _ (starts led : List ℕ) (first : ℕ) (s : Held Listed) (row : ℕ) where
  abbrev Rows : ℕ → Held Listed → Type 0
  Rows k t = Going (led_by starts led) write (led_row led) first s k t

  -- a row that leads nowhere
  pub missing_passed : (t : Held Listed) → get_or led row 0 ≡ missing → Going (led_by starts led) write (led_row led) first s row t → Going (led_by starts led) write (led_row led) first s (row + 1) t
  missing_passed t e g = going-none (led_by starts led) write (led_row led) first s g (unless-missing (get_or led row 0) (eq-eqb (get_or led row 0) missing e))

  -- a row whose module is met
  pub row_met : {t u : Held Listed} → (get_or led row 0 ≡ missing → ⊥) → Rows row t → Searches (led_by starts led) write t (get_or led row 0 ∷ []) u → Rows (row + 1) u
  row_met n g v = going-found (led_by starts led) write (led_row led) first s g (unless-one (get_or led row 0) (ne_eqb (get_or led row 0) missing n)) v

  -- a row whose module has a number
  pub numbered_passed : (states stack : List ℕ) (depth : ℕ) (paths lengths : List ℕ) (count used : ℕ) → (get_or led row 0 ≡ missing → ⊥) → get_or states (get_or led row 0) 0 ≡ 2
      → Going (led_by starts led) write (led_row led) first s row (held states stack depth paths lengths count used)
      → Going (led_by starts led) write (led_row led) first s (row + 1) (held states stack depth paths lengths count used)
  numbered_passed states stack depth paths lengths count used n e g =
      row_met n g (number_passed starts led states stack depth paths lengths count used (get_or led row 0) (λ z. omega (arith, z, e)) (λ z. omega (arith, z, e)))

-- a module that can be begun: m at depth
module _ {starts led states stack : List ℕ} {depth count used : ℕ} (leads : Leads starts led (length states)) (room : Room states stack depth count used) (paths lengths : List ℕ) (m : ℕ) where
  abbrev succ : ℕ → List ℕ
  succ = led_by starts led

  abbrev before : Held Listed
  before = held states stack depth paths lengths count used

  module _ (new : is_new before m ≡ true) where
    pub one_less : suc (zeros (set states m 1)) ≡ zeros states
    one_less = set-zeros states m new

    pub has-place : depth < length stack
    has-place = omega (arith, one_less, room.lists, room.places)

    abbrev pub begun : Held Listed
    begun = held (set states m 1) (set stack depth m) (depth + 1) paths lengths count used

    begun-length : length (take (depth + 1) (set stack depth m)) ≡ depth + 1
    begun-length = length-take-le (depth + 1) (set stack depth m) (omega (arith, has-place, length-set stack depth m))

    begun-same : begun ≡ enter m before
    begun-same =
        ap (λ (l : List ℕ). record { states = set states m 1; begun = l; made = listed paths lengths count used })
        (ap (λ (k : ℕ). take k (set stack depth m)) (add-one depth) ∙ take-suc-set stack depth m has-place)

    -- while its rows are followed
    module _ (stack' : List ℕ) {states' paths' lengths' xs : List ℕ} {count' used' : ℕ} (v : Searches succ write begun xs (held states' stack' (depth + 1) paths' lengths' count' used')) (same : length stack' ≡ length (set stack depth m)) where
      abbrev kept : Kept succ write begun (held states' stack' (depth + 1) paths' lengths' count' used')
      kept = met-kept succ write v

      pub states-length : length states' ≡ length states
      states-length = kept.len ∙ length-set states m 1

      pub stack-length : length stack' ≡ length stack
      stack-length = same ∙ length-set stack depth m

      pub fewer : zeros states' < zeros states
      fewer = omega (arith, kept.fewer, one_less)

      short : used' ≤ count' * 4097
      short =
          met-keeps succ write 4097 (λ (a : Listed). a.used ≤ a.count * 4097) (λ a path l h. omega (arith, l, h)) v
          (omega (arith, begun-length, one_less, room.lists, leads.few)) room.short

      pub again : length xs ≤ row_limit → Room states' stack' (depth + 1) count' used'
      again l = record {
        places = stack-length ∙ room.places ∙ sym states-length;
        lists = omega (arith, kept.fewer, one_less, room.lists, states-length);
        counts = omega (arith, met-room succ write row_limit (targets-few leads) (λ (a : Listed). a.count) (λ a path. omega arith) v, one_less, room.counts, l);
        short = short;
      }

      -- past the last row it takes its number
      module _ (all : xs ≡ succ m) where
        front_same : front (take (depth + 1) stack') ≡ take depth stack'
        front_same =
            ap (λ (k : ℕ). front (take k stack')) (add-one depth)
            ∙ ap front (take-suc stack' depth 0 (omega (arith, has-place, stack-length)))
            ∙ front-snoc (take depth stack') (get_or stack' depth 0)

        pub numbered : Searches succ write before (m ∷ []) (held (set states' m 2) stack' depth paths' lengths' count' used')
        numbered =
            let t = held states' stack' (depth + 1) paths' lengths' count' used' in
            let w = subst (λ (l : List ℕ). Searches succ write begun l t) all v in
            subst (λ (l : List ℕ). Searches succ write before (m ∷ []) (record { states = set states' m 2; begun = l; made = listed paths' lengths' count' used' })) front_same
            (new-met succ write before t m new (subst (λ (s : Held Listed). Searches succ write s (succ m) t) begun-same w))

-- what is known of the slices between two rows of a begun module
pub record Between (states : List ℕ) (depth : ℕ) (states' stack' : List ℕ) (count' used' : ℕ) : Type 0 where
  pub long : length states' ≡ length states
  pub fewer : zeros states' < zeros states
  pub room : Room states' stack' (depth + 1) count' used'

module _ {starts led states stack : List ℕ} {depth count used : ℕ} (leads : Leads starts led (length states)) (room : Room states stack depth count used) (paths lengths : List ℕ) {m : ℕ}
    (inside : m < length states) (none : get_or states m 0 ≡ 0) where
  pub place_left : depth < length stack
  place_left = has-place leads room paths lengths m (fresh-zero states m inside none)

  module _ {first row : ℕ} {states' paths' lengths' : List ℕ} {count' used' : ℕ} (stack' : List ℕ) (same : length stack' ≡ length (set stack depth m))
      (g : Going (led_by starts led) write (led_row led) first (held (set states m 1) (set stack depth m) (depth + 1) paths lengths count used) row (held states' stack' (depth + 1) paths' lengths' count' used')) where
    pub between : row ≤ length led → Between states depth states' stack' count' used'
    between h =
        let new = fresh-zero states m inside none in
        record {
          long = states-length leads room paths lengths m new stack' g.so_far same;
          fewer = fewer leads room paths lengths m new stack' g.so_far same;
          room = again leads room paths lengths m new stack' g.so_far same (omega (arith, rows_few led first (row - first), h, leads.rows));
        }

    -- past the last row it takes its number
    pub all_met : first ≡ get_or starts m 0 → row ≡ get_or starts (m + 1) 0
        → Searches (led_by starts led) write (held states stack depth paths lengths count used) (m ∷ []) (held (set states' m 2) stack' depth paths' lengths' count' used')
    unfolding led_by
    all_met f e =
        numbered leads room paths lengths m (fresh-zero states m inside none) stack' g.so_far same
        (ap (λ (i : ℕ). flat_map (led_row led) (count_from i (row - i))) f ∙ ap (λ (k : ℕ). flat_map (led_row led) (count_from (get_or starts m 0) (k - get_or starts m 0))) e)
