-- Sensitive modules are those that the scope says, and modules of the project; their marks are their grounds.
-- Assumes nothing.
use Rattle.std.specs.Prelude.{◌≡◌, ℕ, ◌<◌, Bool, true, false, cond, not, ◌&&◌, ◌||◌, eqb, List, length}
use mathlib.Core.Path.{refl, sym, ap, ◌∙◌, fun_ext}
use native.Mathlib.Decide.{dec_lt}
use Rattle.lists.specs.Words.{is_zero, has}
use Rattle.lists.proofs.Laws.{iff-eq, and_parts, has_in, get_d-map-up_to, length-map-up_to}
use Rattle.tables.specs.Project.{Project}
use Rattle.tables.specs.Readings.{modules, is_normal, flagged}
use Rattle.tables.proofs.Targets.{normal-in}
use Rattle.sensitivity.specs.Marks.{uses_wrapped, is_sensitive, ground_by, ground_at, ground_of, sensitive, grounds_of}

-- the answer is above 0 exactly for the modules that the scope calls sensitive
pub ground-sensitive : (runtime : ℕ) (normal included flag : List ℕ) (uses : ℕ → Bool) (m : ℕ) → not (is_zero (ground_at runtime normal included flag uses m)) ≡ is_sensitive runtime normal included flag uses m
ground-sensitive runtime normal included flag uses m = same (not (eqb m runtime)) (is_normal normal m) (flagged included m) (flagged flag m) (uses m)
  where
    above : (f u : Bool) → not (is_zero (ground_by f u)) ≡ (f || u)
    above true true = refl
    above true false = refl
    above false true = refl
    above false false = refl

    same : (a b c f u : Bool) → not (is_zero (cond (a && (b && c)) (ground_by f u) 0)) ≡ (a && (b && (c && (f || u))))
    same true true true f u = above f u
    same true true false f u = refl
    same true false c f u = refl
    same false b c f u = refl

module _ (p : Project) where
  abbrev uses : ℕ → Bool
  uses = uses_wrapped p.normal p.wrap p.record_kind p.record_target p.statement_module p.statement_included p.use_statement p.use_record

  pub sensitive-is : (m : ℕ) → sensitive p m ≡ is_sensitive p.runtime p.normal p.included p.sensitive uses m
  unfolding sensitive ground_of
  sensitive-is m = ground-sensitive p.runtime p.normal p.included p.sensitive uses m

  pub sensitive-in : (m : ℕ) → sensitive p m ≡ true → m < modules p
  sensitive-in m e = normal-in p.normal m (and_parts (is_normal p.normal m) _ (and_parts (not (eqb m p.runtime)) _ (sym (sensitive-is m) ∙ e)).1).0

  pub length-grounds : length (grounds_of p) ≡ modules p
  length-grounds = length-map-up_to (ground_of p) (modules p)

  pub sensitive-marks : has (grounds_of p) ≡ sensitive p
  unfolding sensitive
  sensitive-marks = fun_ext (λ m. go m (dec_lt m (modules p)))
    where
      go : (m : ℕ) → Dec (m < modules p) → has (grounds_of p) m ≡ not (is_zero (ground_of p m))
      go m (yes l) = ap (λ (x : ℕ). not (is_zero x)) (get_d-map-up_to (ground_of p) (modules p) m 0 l)
      go m (no l) =
          iff-eq (has (grounds_of p) m) (not (is_zero (ground_of p m)))
          (λ e. absurd (l (rw length-grounds at (has_in (grounds_of p) m e))))
          (λ e. absurd (l (sensitive-in m e)))
