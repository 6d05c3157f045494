-- The arrangement of an accepted project's members.
-- Assumes nothing.
use Rattle.std.specs.Prelude.{◌≡◌, ℕ, zero, suc, ◌<◌, true, cond, ◌||◌, List, [], length, None}
use mathlib.Core.Path.{refl, sym, ap, ◌∙◌}
use mathlib.Core.Logic.{⊎_elim}
use Rattle.lists.specs.Words.{is_zero}
use Rattle.lists.proofs.Laws.{both, length-map-up_to}
use Rattle.tables.specs.Project.{Project}
use Rattle.tables.specs.Readings.{modules, chunks}
use Rattle.tables.specs.Accepted.{Accepted}
use Rattle.refusal.specs.Reading.{Read}
use Rattle.table.specs.declared.Table.{Table}
use Rattle.table.specs.Table.{read, current, lent_as}
use Rattle.table.specs.Lending.{as_lent, written}
use Rattle.table.proofs.Laws.{read-own, lent-accepted, lent-current, lent-names}
use Rattle.table.proofs.Reading.{Replacing, accepted-read}
use Rattle.sort_modules.specs.Sort.{numbers}
use Rattle.sort_modules.specs.OfProject.{numbers_of}
use Rattle.names.specs.Names.{names_fit, names_in}
use Rattle.module_keys.specs.Keys.{key_of}
use Rattle.arrangement.specs.Arrangement.{arranged}
use Rattle.arrangement.specs.OfProject.{key_in, arranged_of, members_read, named, as_named}
use Rattle.arrangement.specs.inner.Rows.{Members, Fit}
use Rattle.arrangement.proofs.Laws.{arranged-size, arranged-below, arranged-same}

-- the members arranged by what are the keys of the modules
pub keys_arranged : (p : Project) (names found : List ℕ) → Fit p names found → (key : ℕ → List ℕ) (members : List ℕ) (count : ℕ) → members ≡ p.member → count ≡ chunks p
    → ((m : ℕ) → m < modules p → key m ≡ key_of names p.normal p.record_module p.sensitive found m)
    → arranged key count p.member_chunk members ≡ arranged (key_of names p.normal p.record_module p.sensitive found) (chunks p) p.member_chunk p.member
keys_arranged p names found f key members count m c h =
    rw (m, c) (arranged-same key (key_of names p.normal p.record_module p.sensitive found) (chunks p) (modules p) p.member_chunk p.member h f.chunked.lengths f.inside)

module _ (p : Project) (ok : Accepted p) where
  pub members-fit : Members p.member_chunk p.member (chunks p)
  members-fit = record { rising = ok.rises.member_chunk; lengths = ok.sizes.member; owners = ok.values.member_chunk }

  pub numbers-length : length (numbers_of p) ≡ modules p
  unfolding numbers_of numbers
  numbers-length = length-map-up_to _ (modules p)

  -- its columns fit each other, with its names and its numbers
  pub arranging_fit : (names found : List ℕ) → names_fit (modules p) names ≡ true → found ≡ numbers_of p → Fit p names found
  arranging_fit names found n e = record {
    modules = record { normals = refl; sensitives = ok.sizes.sensitive; rising = ok.rises.record_module };
    few = ok.sizes.normal;
    named = n;
    numbered = ap length e ∙ numbers-length;
    chunked = members-fit;
    inside = ok.values.member;
  }

  -- the members as they are read: as many, and each a module
  pub read-size : (names : List ℕ) → length (members_read p names) ≡ length p.member
  unfolding members_read arranged_of
  read-size names =
      ⊎_elim (λ e. rw e) (λ e. rw e (arranged-size (key_in p names) p.member_chunk p.member (chunks p) members-fit)) (both (is_zero (length names)))

  pub read-replacing : (names : List ℕ) → Replacing p p.record_target p.dependency (members_read p names)
  unfolding members_read arranged_of
  read-replacing names = record {
    target_rows = refl;
    target_values = ok.values.record_target;
    dependency_rows = refl;
    dependency_values = ok.values.dependency;
    member_rows = read-size names;
    member_values =
        ⊎_elim (λ e. rw e ok.values.member) (λ e. rw e (arranged-below (key_in p names) p.member_chunk p.member (chunks p) members-fit (modules p) ok.values.member)) (both (is_zero (length names)));
  }

  -- the project as it is read is accepted
  pub named-accepted : (names : List ℕ) → Accepted (named p names)
  unfolding named
  named-accepted names = accepted-read p ok (read-replacing names)

-- "a project without the list": it is read as it is
unnamed : (p : Project) (names : List ℕ) → length names ≡ 0 → named p names ≡ p
unfolding named members_read
unnamed p names e = rw e (read-own p)

pub named_none : (p : Project) → named p [] ≡ p
named_none p = unnamed p [] refl

-- "in this arrangement exactly if the project has names"
arranged-named : (p : Project) (names : List ℕ) → (length names ≡ 0 → ⊥) → record p { member = arranged_of p names } ≡ named p names
unfolding named members_read read
arranged-named p names n = some (length names) n
  where
    some : (l : ℕ) → (l ≡ 0 → ⊥) → record p { member = arranged_of p names } ≡ record p { member = cond (is_zero l) p.member (arranged_of p names) }
    some zero n = absurd (n refl)
    some (suc l) n = refl

-- names that are there are of the form
pub in-fit : (n : ℕ) (names : List ℕ) → names_in n names ≡ true → (length names ≡ 0 → ⊥) → names_fit n names ≡ true
unfolding names_in
in-fit n names h k = some (length names) h k
  where
    some : (l : ℕ) → (is_zero l || names_fit n names) ≡ true → (l ≡ 0 → ⊥) → names_fit n names ≡ true
    some zero h k = absurd (k refl)
    some (suc l) h k = h

-- there are as many modules
pub named-modules : (p : Project) (names : List ℕ) → modules (named p names) ≡ modules p
unfolding named read
named-modules p names = refl

module _ (bounds columns names : List ℕ) (p : Project) (accepts : (lent_as bounds columns names p).refused ≡ None) where
  -- where nothing refuses it, the project as it is read is accepted, and the names are those of its modules, or none at all

  pub lent-named : Accepted (named (current p) names)
  lent-named = named-accepted (current p) (lent-current bounds columns names p accepts) names

  pub lent-fit : names_in (modules (current p)) names ≡ true
  unfolding current read
  lent-fit = lent-names bounds columns names p accepts

-- what a lent table that nothing refuses gives, as it is read

module _ (t : Table) (passed : (as_lent t).refused ≡ None) where
  pub written_accepted : Accepted (written t)
  written_accepted = lent-accepted t.bounds.now t.columns.now t.names.now (written t) passed

  module _ {p : Project} (e : p ≡ current (written t)) where
    current-accepted : Accepted p
    current-accepted = rw e (lent-current t.bounds.now t.columns.now t.names.now (written t) passed)

    -- without names, as it is
    pub current_unnamed : length t.names.now ≡ 0 → p ≡ (as_named t).project
    current_unnamed n = e ∙ sym (unnamed (current (written t)) t.names.now n)

    module _ (some : length t.names.now ≡ 0 → ⊥) where
      -- with names, which are of the form, its members arranged
      pub current-names : names_fit (modules p) t.names.now ≡ true
      current-names = in-fit (modules p) t.names.now (rw e (lent-fit t.bounds.now t.columns.now t.names.now (written t) passed)) some

      pub current-arranged : record p { member = arranged_of p t.names.now } ≡ (as_named t).project
      current-arranged = arranged-named p t.names.now some ∙ ap (λ (q : Project). named q t.names.now) e

      pub current-arranged-accepted : Accepted (record p { member = arranged_of p t.names.now })
      current-arranged-accepted = rw (arranged-named p t.names.now some) (named-accepted p current-accepted t.names.now)

-- the same of a project that is read from it

module _ (t : Table) {p : Project} (r : Read (as_lent t) p) where
  pub read_unnamed : length t.names.now ≡ 0 → Read (as_named t) p
  read_unnamed n = record { passed = r.passed; project = current_unnamed t r.passed r.project n }

  module _ (some : length t.names.now ≡ 0 → ⊥) where
    pub read-names : names_fit (modules p) t.names.now ≡ true
    read-names = current-names t r.passed r.project some

    pub read-arranged : Read (as_named t) (record p { member = arranged_of p t.names.now })
    read-arranged = record { passed = r.passed; project = current-arranged t r.passed r.project some }

    pub read-arranged-accepted : Accepted (record p { member = arranged_of p t.names.now })
    read-arranged-accepted = current-arranged-accepted t r.passed r.project some

-- what the code's proofs search with
pub ruleset reading = (written_accepted, current_unnamed, current-names, current-arranged, current-arranged-accepted)
