-- `circle_visit::inner::close_path`: the path is written, and its length.
-- Assumes nothing.
use Rattle.std.proofs.Common.{◌≡◌, ℕ, ◌+◌, ◌-◌, List, length, slice_set, ap, ◌∙◌}
use Rattle.std.proofs.lemmas.List.Edits.{sets}
use Rattle.circle_visit.specs.Visit.{listed}
use Rattle.circle_visit.proofs.Paths.{rest-same, path-written, path-long}
use Rattle.circle_visit.proofs.inner.close_path.Goals as goal

listed_same : {p p' l l' : List ℕ} {c u u' : ℕ} → p ≡ p' → l ≡ l' → u ≡ u' → listed p l c u ≡ listed p' l' c u'
listed_same {c = c} e f g = cc

pub returns : goal.returns
returns c =
    let begun = c.args.begun.now in
    let start = c.place_of-start.result in
    let used = c.args.found.used in
    let q = c.place_of-start.ensures.1 in
    let n = path-long begun c.args.paths.now c.args.m start used q in
    listed_same
    (c.put_at.ensures
    ∙ ap (λ (l : List ℕ). slice_set l (used + (length begun - start)) c.args.m) (c.put_all.ensures ∙ ap (sets c.args.paths.now used) (rest-same begun start))
    ∙ path-written begun c.args.paths.now c.args.m start used q)
    (c.put_at-2.ensures ∙ ap (slice_set c.args.lengths.now c.args.found.count) n)
    (ap (λ (j : ℕ). used + j) n)
