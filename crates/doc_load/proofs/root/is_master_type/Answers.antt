use Rattle.std.proofs.Common.{◌∙◌, codes, chars, refl}
use Rattle.read_values.proofs.Words.{same_text}
use Rattle.doc_load.proofs.TextLemmas.{same_back}
use Rattle.doc_load.proofs.root.is_master_type.Goals as goal

pub returns : goal.returns
returns c =
    c.eq.ensures ∙ same_text c.args.text.now (codes "application/vnd.oasis.opendocument.text-master") refl c.utf8.text
    ∙ same_back (chars c.args.text.now) (codes "application/vnd.oasis.opendocument.text-master")
