use Rattle.std.proofs.Common.{◌≡◌, ◌+◌, ◌-◌, length, take, drop, append_assoc, refl, sym, ◌∙◌, arith}
use Rattle.std.proofs.lemmas.List.{drop-drop}
use Rattle.std.proofs.lemmas.List.Edits.{sets-eq}
use Rattle.lines.proofs.lines.Writer.put_bytes.Goals as goal

pub returns : goal.returns
returns c =
    let w = c.args.self.now in
    let word = c.args.word.now in
    let e : w.at + length word - w.at ≡ length word = omega arith in
    record {
      slice = refl;
      put = record {
        next = refl;
        put = rw (c.copy_from_slice.ensures.after, e, drop-drop (length word) w.at w.out.now) (sym (append_assoc (take w.at w.out.now) word (drop (w.at + length word) w.out.now)) ∙ sym (sets-eq word w.out.now w.at c.requires));
      };
    }
