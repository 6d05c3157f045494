-- The project whose sets these are, and that they are its sets. What `ModuleSets` are, their own type says.
-- Assumes nothing.
use Rattle.tables.specs.Project.{Project}
use Rattle.rule_sets.specs.inner.Sets.{Labelled, Rooted, Reached, Joined}
use Rattle.rule_sets.specs.declared.inner.LabelSets.TheInside as LabelSets
use Rattle.rule_sets.specs.declared.inner.RootSets.TheInside as RootSets
use Rattle.rule_sets.specs.declared.inner.ReachedSet.TheInside as ReachedSet
use Rattle.rule_sets.specs.declared.inner.RuleSets.TheInside as RuleSets

abbrev pub labelled_of : LabelSets.Inside → Project
labelled_of s = s.sets.current.now

abbrev pub AreLabelled : LabelSets.Inside → Type 0
AreLabelled s = Labelled s.sets.current.now s.labels.now

abbrev pub rooted_of : RootSets.Inside → Project
rooted_of s = s.sets.current.now

abbrev pub AreRooted : RootSets.Inside → Type 0
AreRooted s = Rooted s.sets.current.now s.roots.now

abbrev pub reached_of : ReachedSet.Inside → Project
reached_of s = s.current.now

abbrev pub AreReached : ReachedSet.Inside → Type 0
AreReached s = Reached s.current.now s.candidates.now

abbrev pub project_of : RuleSets.Inside → Project
project_of s = s.labelled

abbrev pub AreJoined : RuleSets.Inside → Type 0
AreJoined s = Joined s.labelled s.rooted s.reached s.imports
