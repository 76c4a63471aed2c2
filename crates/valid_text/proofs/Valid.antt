-- The draft of a tree whose places rise.
use Rattle.std.proofs.Common.{◌≡◌, true, false, Some, refl}
use Rattle.load_model.specs.declared.element.Element.{Element as Read}
use Rattle.load_model.specs.Left.{children}
use Rattle.load_model.specs.Loaded.{draft_of, text_of}
use Rattle.legal_trees.specs.Legal.{IsLegalTree}
use Rattle.tree_places.specs.Order.{IsInOrder}
use Rattle.valid_text.specs.Texts.{AreTextsValid}
use Rattle.valid_text.proofs.Drafts.{body_good, draft_good, text_read}
use Rattle.valid_text.proofs.Ordered.{order_settled}
use Rattle.valid_text.proofs.Parts.{texts_valid}
use Rattle.valid_text.proofs.Walk.{AreSettled, each_settled}

module _ (root : Read) (legal : IsLegalTree root) (order : IsInOrder root) where
  is_settled : (text : Read) → text_of root ≡ Some text → AreSettled (text_read root legal true) false (children text)
  is_settled text e = each_settled (text_read root legal true) false (children text) (λ strict. order_settled root order text e)

  pub drafts_valid : AreTextsValid (draft_of root)
  drafts_valid = texts_valid (text_read root legal true) (body_good root legal true is_settled) refl (draft_good root legal true is_settled)
