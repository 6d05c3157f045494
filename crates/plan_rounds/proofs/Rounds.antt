-- A pass of each rule in turn, and passes until nothing changes.
-- Assumes nothing.
use Rattle.std.specs.Prelude.{◌≡◌, ℕ, Bool, true, false, ◌||◌, List, length}
use mathlib.Core.Path.{◌∙◌}
use Rattle.walk.specs.Close.{Within, Bits}
use Rattle.tables.specs.Project.{Project}
use Rattle.chunk_cycles.specs.Cycles.{labels_of}
use Rattle.wrap_rules.specs.Plan.{Rule, component_rule, import_rule, read_rule, orders_of, asks, asked}
use Rattle.wrap_rules.specs.inner.Passes.{Passed, Marked}
use Rattle.wrap_rules.proofs.Sets.{marked_more}
use Rattle.wrap_rules.proofs.Monotone.{asks-monotone, asked-monotone}
use Rattle.wrap_rules.proofs.Passes.{passed-added, pass-rules, Spread, spread_end}
use Rattle.marks.specs.Steps.{Added}
use Rattle.import_edges.specs.inner.Spread.{record_targets}
use Rattle.suffix_rule.specs.inner.Suffix.{Settled, SuffixPassed}
use Rattle.suffix_rule.proofs.Extending.{planned-more}
use Rattle.component_rule.specs.inner.Members.{ComponentPassed}
use Rattle.import_rule.specs.inner.Imports.{Leading, ImportPassed}
use Rattle.import_rule.proofs.OfProject.{leading-more, under_more}
use Rattle.read_rule.specs.inner.Reads.{ReadPassed}
use Rattle.plan_rounds.specs.inner.Rounds.{Kept, Once, closed}

-- where just what a rule asks for is added, that is a pass of the rule
pub rule-passed : (p : Project) (rule : Rule) {s t : List ℕ} {changed : Bool} → Bits s → Added (λ (m : ℕ). asks (orders_of p) (labels_of p) p rule s m ≡ true) s t changed → Passed (asks (orders_of p) (labels_of p) p rule) s t changed
rule-passed p rule {s} bits =
    passed-added (asks (orders_of p) (labels_of p) p rule) (λ (m : ℕ). asks (orders_of p) (labels_of p) p rule s m ≡ true) (asks-monotone (orders_of p) (labels_of p) p rule) bits (λ m h. h) (λ m l h. h)

-- the four passes in turn
module _ {p : Project} {settled leads plan settled' t : List ℕ} {a : Bool} (kept : Kept p settled leads plan) (one : SuffixPassed p plan settled' t a) where
  pub after-suffixes : Marked p t
  after-suffixes = marked_more kept.marked one.passed

  module _ {u : List ℕ} {b : Bool} (two : ComponentPassed p t u b) where
    members : Passed (asks (orders_of p) (labels_of p) p component_rule) t u b
    members = rule-passed p component_rule one.passed.bits two

    pub after-members : Marked p u
    after-members = marked_more after-suffixes members

    pub leading-members : Leading p leads u
    leading-members = leading-more (leading-more kept.leading one.passed) members

    module _ {leads' v : List ℕ} {c : Bool} (three : ImportPassed p u leads' v c) where
      imports : Passed (asks (orders_of p) (labels_of p) p import_rule) u v c
      imports = rule-passed p import_rule members.bits three.added

      pub after-imports : Marked p v
      after-imports = marked_more after-members imports

      module _ {w : List ℕ} {d : Bool} (n : length settled' ≡ length settled) (four : ReadPassed p v w d) where
        readers : Passed (asks (orders_of p) (labels_of p) p read_rule) v w d
        readers = rule-passed p read_rule imports.bits four

        pub once : Once p plan settled' leads' w (a || (b || (c || d)))
        unfolding Settled Within
        once = record {
          kept = record {
            marked = marked_more after-imports readers;
            settling = record { size = n ∙ kept.settling.size; settles = λ k l q. planned-more _ _ _ t w (λ m x. four.old m (three.added.old m (two.old m x))) (one.settles k l q) };
            leading = record {
              size = three.spreads.len ∙ after-members.size;
              along = three.spreads.along;
              under = under_more (record_targets p) p.record_module u w leads' (four.len ∙ three.added.len) (λ m x. four.old m (three.added.old m x)) three.spreads.under;
            };
          };
          passed = pass-rules (orders_of p) (labels_of p) p one.passed members imports readers;
        }

-- the loop: from s to t, `more` as the last pass said
pub record Turning (p : Project) (settled leads s t : List ℕ) (more : Bool) : Type 0 where
  pub kept : Kept p settled leads t
  pub spread : Spread (asked (orders_of p) (labels_of p) p) s t more

pub turning-end : {p : Project} {settled leads s t : List ℕ} → Bits s → Turning p settled leads s t false → t ≡ closed p s
turning-end {p} b g = spread_end (asked (orders_of p) (labels_of p) p) (asked-monotone (orders_of p) (labels_of p) p) b g.spread
