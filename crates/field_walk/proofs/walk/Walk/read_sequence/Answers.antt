use Rattle.std.proofs.Common.{◌≡◌, ◌∷◌, [], Bool, ap, ◌∙◌, refl}
use Rattle.field_model.specs.declared.gathered.Piece.TheVariants.{Number}
use Rattle.field_model.specs.declared.gathered.Target.{Target}
use Rattle.field_model.specs.Gathered.{spot}
use Rattle.field_model.specs.Quotes.{pieces_and}
use Rattle.field_walk.specs.Lists.{run_in}
use Rattle.field_walk.specs.declared.walk.Walk.{Walk}
use Rattle.field_walk.proofs.ReadLemmas.{sequence_read}
use Rattle.field_walk.proofs.ForgetLemmas.{sequences_same, removed}
use Rattle.field_walk.proofs.walk.Walk.read_sequence.Goals as goal

pub returns-in-Ok : goal.returns-in-Ok
returns-in-Ok c = λ all h.
    let t = c.target-target.ensures all h in
    let s : c.target-target.result.spot ≡ spot all = ap (λ (t : Target). t.spot) t in
    let m = c.in-Ok.ensures.sequences in
    let a = c.in-Ok.ensures.counted in
    let r = c.in_ok-push.ensures.ok in
    rw (c.in_ok-next.ensures, c.keep_sequence.ensures.rest) (sequence_read c.args.self.now all c.keep_sequence.new.self.sequences c.keep_sequence.new.self.counted c.push.new.self c.args.name.now c.args.refname.now c.args.format h (rw (← t, ← c.in_ok-copy.ensures) m) (rw (← s) a) (rw (← s, ← c.in_ok-copy-2.ensures) r))

pub returns-in-Err : goal.returns-in-Err
returns-in-Err c = λ all h.
    let in_note : c.keep_sequence.new.self.in_note ≡ c.args.self.now.in_note = ap (λ (walk : Walk). walk.in_note) c.keep_sequence.ensures.rest in
    let piece = Number c.in_ok-copy-2.field-0 c.args.format c.target-target.result.spot in
    let had : (noted : Bool) → run_in c.keep_sequence.new.self.runs noted ≡ pieces_and noted c.args.self.now.in_note (run_in c.args.self.now.runs noted) (piece ∷ []) = λ noted. ap (λ (walk : Walk). run_in walk.runs noted) c.keep_sequence.ensures.rest ∙ c.in_ok-push.ensures.ok noted in
    rw c.keep_sequence.ensures.rest (sequences_same c.args.self.now all c.keep_sequence.new.self.sequences c.keep_sequence.new.self.counted c.pop.new.self h c.in-Err.ensures.unnamed c.in-Err.ensures.uncounted
    (λ noted. removed noted c.keep_sequence.new.self.in_note c.args.self.now.in_note 1 _ _ _ (piece ∷ []) in_note (had noted) refl (c.pop.ensures noted)))
