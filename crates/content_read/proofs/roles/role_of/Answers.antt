use Rattle.std.proofs.Common.{◌∙◌, sym}
use Rattle.load_model.specs.declared.element.Element.{out-Element}
use Rattle.load_model.specs.Blocks.{one_element}
use Rattle.load_model.specs.Left.{attributes_of}
use Rattle.content_read.specs.Held.{held}
use Rattle.content_read.proofs.HeldLemmas.{content_out}
use Rattle.content_read.proofs.RoleLemmas.{content_passed}
use Rattle.content_read.proofs.roles.role_of.Goals as goal

pub returns-else-is_alone-clause-read : goal.returns-else-is_alone-clause-read
returns-else-is_alone-clause-read c = λ model known around same.
    let element = c.args.element.now in
    record {
      more = one_element;
      left_is = c.elements.ensures;
      content_is = content_out model element around
          ∙ content_passed model (out-Element element).place (attributes_of element) (held model element) around (out-Element element).tag c.in_default.not-Span c.in_default.not-Note (sym c.is_alone.ensures ∙ c.if-is_alone.false);
    }
