-- One dimension after another.
use Rattle.std.proofs.Common.{◌≡◌, ◌++◌, List, codes}
use Rattle.std.specs.List.{flat_map}
use Rattle.std.specs.Str.{chars}
use Rattle.std.specs.String.{string_bytes}
use Rattle.markup_nodes.specs.declared.words.Attr.{Attr}
use Rattle.style_model.specs.Lengths.{length_spelling}
use Rattle.tree_text.specs.Writing.{attr_text}
use Rattle.written_model.specs.Elements.{where_stated}
use Rattle.style_write.proofs.JoinLemmas.{joined, joined_last}
use Rattle.sheet_write.proofs.layouts.push_layout_attributes.Goals as goal

pub returns : goal.returns
unfolding chars
returns c =
    let old = chars (string_bytes c.args.out.now) in
    let layout = c.args.layout.now in
    let width : List Attr = where_stated (codes "fo:page-width") length_spelling layout.width in
    let height : List Attr = where_stated (codes "fo:page-height") length_spelling layout.height in
    let left : List Attr = where_stated (codes "fo:margin-left") length_spelling layout.left in
    let right : List Attr = where_stated (codes "fo:margin-right") length_spelling layout.right in
    let top : List Attr = where_stated (codes "fo:margin-top") length_spelling layout.top in
    let bottom : List Attr = where_stated (codes "fo:margin-bottom") length_spelling layout.bottom in
    let s0 : chars (string_bytes c.push_length_stated.new.out) ≡ old ++ flat_map attr_text width = c.in_ok-push_length_stated.ensures in
    let s1 = joined (chars (string_bytes c.push_length_stated-2.new.out)) (chars (string_bytes c.push_length_stated.new.out)) old width height s0 c.in_ok-push_length_stated-2.ensures in
    let s2 = joined (chars (string_bytes c.push_length_stated-3.new.out)) (chars (string_bytes c.push_length_stated-2.new.out)) old (width ++ height) left s1 c.in_ok-push_length_stated-3.ensures in
    let s3 = joined (chars (string_bytes c.push_length_stated-4.new.out)) (chars (string_bytes c.push_length_stated-3.new.out)) old (width ++ height ++ left) right s2 c.in_ok-push_length_stated-4.ensures in
    let s4 = joined (chars (string_bytes c.push_length_stated-5.new.out)) (chars (string_bytes c.push_length_stated-4.new.out)) old (width ++ height ++ left ++ right) top s3 c.in_ok-push_length_stated-5.ensures in
    joined_last c.push_length_stated-6.result (chars (string_bytes c.push_length_stated-6.new.out)) (chars (string_bytes c.push_length_stated-5.new.out)) old (width ++ height ++ left ++ right ++ top) bottom s4 c.push_length_stated-6.ensures
