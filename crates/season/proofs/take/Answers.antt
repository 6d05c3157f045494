-- A byte keeps the totals sound.
use Rattle.std.proofs.Common.{Option, Result, ℕ, sym, ap, subst}
use Rattle.file_names.specs.declared.Names.{Names}
use Rattle.file_names.specs.declared.Step.{Step}
use Rattle.tables.specs.declared.Refusal.{Refusal}
use Rattle.season.specs.Sound.{Sound, Room, Acted}
use Rattle.season.proofs.Keeping.{byte-room, byte-sound}
use Rattle.season.proofs.take.Goals as goal

pub act-requires : goal.act-requires
act-requires g c =
    let s = c.args.season in
    subst (λ (x : Option (Result ℕ Refusal)). Room x s.totals) (sym (ap (λ (z : Step). z.turn) c.take_byte-step.ensures.value)) (byte-room s.names s.totals s.sound c.args.b)

pub invariant_of-result : goal.invariant_of-result
invariant_of-result g c =
    let s = c.args.season in
    let stepped = c.take_byte-step.ensures.value in
    let r = c.in_ok-act.field-0 in
    record {
      sound =
          subst (λ (n : Names). Sound n r) (sym (ap (λ (z : Step). z.names) stepped))
          (byte-sound s.names s.totals s.sound c.args.b r (subst (λ (x : Option (Result ℕ Refusal)). Acted x s.totals r) (ap (λ (z : Step). z.turn) stepped) c.in_ok-act.ensures));
    }
