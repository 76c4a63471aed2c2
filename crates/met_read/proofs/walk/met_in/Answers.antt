use Rattle.std.proofs.Common.{◌∙◌, ◌++◌, [], List, refl, sym, ap, map, false}
use Rattle.load_model.specs.Met.{Where}
use Rattle.met_read.specs.declared.things.Met.{Met as Read}
use Rattle.met_read.specs.Read.{met_of, outlined}
use Rattle.met_read.specs.declared.walk.Part.TheVariants as part
use Rattle.met_read.specs.Walk.{inside}
use Rattle.met_read.proofs.WalkLemmas.{inside_out}
use Rattle.met_read.proofs.walk.met_in.Goals as goal

pub returns : goal.returns
returns c =
    let body : Where = record { text = 0; in_list = false; sections = [] } in
    c.in_ok-push_inside.ensures body (record { text = refl; in_list = refl; section = refl })
    ∙ ap (λ (before : List Read). map met_of before ++ map outlined (inside part.Blocks c.args.text.now body)) c.new-met.ensures.items
    ∙ ap (map outlined) (sym (inside_out c.args.text.now body))
