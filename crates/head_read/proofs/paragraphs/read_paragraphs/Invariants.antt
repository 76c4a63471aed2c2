use Rattle.std.proofs.Common.{map, take}
use Rattle.load_model.specs.Styles.{Names}
use Rattle.sheet_names.specs.Known.{Knows}
use Rattle.head_read.specs.Heads.{ParagraphsAre}
use Rattle.head_read.proofs.paragraphs.read_paragraphs.Given as goal

abbrev pub invariant-elements : goal.invariant-elements
invariant-elements l = (known : Names) → Knows l.names known → ParagraphsAre l.read known (map (λ one. one.now) (take l.element-index l.elements))
