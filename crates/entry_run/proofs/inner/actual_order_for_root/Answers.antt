-- `entry_run::inner::actual_order_for_root`: a chunk's visit and the root, from nothing met and no host noted.
-- Assumes nothing.
use Rattle.std.proofs.Common.{◌≡◌, ℕ, ◌<◌, [], ◌∷◌, length, get_or, replicate, refl, sym, ap, subst, ◌∙◌, arith}
use lib.ListN.{length-replicate}
use Rattle.lists.proofs.Fronts.{take-zeros}
use Rattle.walk.specs.Walk.{St}
use Rattle.walk.proofs.Visits.{zeros-replicate}
use Rattle.tables.specs.Accepted.{Below}
use Rattle.visit_steps.specs.inner.Steps.{Filling}
use Rattle.entry_run.proofs.Hosting.{ran-turns}
use Rattle.entry_run.proofs.inner.actual_order_for_root.Goals as goal

-- the root alone, as a column
one_inside : {n : ℕ} (m : ℕ) → m < n → Below n (m ∷ [])
one_inside {n} m h i l = let first : i ≡ 0 = omega arith in subst (λ (j : ℕ). get_or (m ∷ []) j 0 < n) (sym first) h

pub visit_and_execute-all-requires : goal.visit_and_execute-all-requires
visit_and_execute-all-requires c =
    let f = c.requires in
    let n = length c.args.hosts.now in
    let m : length (replicate {A = ℕ} n 0) ≡ n = length-replicate n 0 in
    let k : length (replicate {A = ℕ} c.args.chunks 0) ≡ c.args.chunks = length-replicate c.args.chunks 0 in
    let z = zeros-replicate n in
    rw (take-zeros c.args.chunks 1024 f.places, take-zeros n 4096 f.modules) (
      record {
        ready = record { spans = rw m f.spans; inside = rw m f.triggered; hosted = c.fill.auto.slots ∙ sym m; room = record { equal = refl; room = omega (arith, z, f.room); limit = omega (arith, z, f.modules) } };
        each = f.each ∙ sym m;
        members = rw m f.members;
        parts = rw k f.parts;
        spans = rw k f.loading;
        inside = rw k f.loaded;
        chunk = rw k f.chunk_in;
      },
      one_inside c.args.root (rw m f.root_in),
    )

pub returns : goal.returns
returns c =
    let ran = rw (take-zeros c.args.chunks 1024 c.requires.places, take-zeros (length c.args.hosts.now) 4096 c.requires.modules, c.fill.ensures) at c.visit_and_execute-all.ensures in
    ap (λ (s : St Filling). s.made) (ran-turns _ _ _ _ _ _ _ _ ran)
