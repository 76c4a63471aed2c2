-- One property after another.
use Rattle.std.proofs.Common.{◌≡◌, ◌++◌, List, codes, decimal}
use Rattle.std.specs.List.{flat_map}
use Rattle.std.specs.Str.{chars}
use Rattle.std.specs.String.{string_bytes}
use Rattle.markup_nodes.specs.declared.words.Attr.{Attr}
use Rattle.style_model.specs.Lengths.{length_spelling}
use Rattle.tree_text.specs.Writing.{attr_text}
use Rattle.written_model.specs.Elements.{where_stated}
use Rattle.written_model.specs.Values as named
use Rattle.style_write.proofs.JoinLemmas.{joined, joined_last}
use Rattle.style_write.proofs.properties.push_paragraph_attributes.Goals as goal

pub returns : goal.returns
unfolding chars
returns c =
    let old = chars (string_bytes c.args.out.now) in
    let props = c.args.props.now in
    let p0 : List Attr = where_stated (codes "fo:margin-left") length_spelling props.margin_left in
    let p1 : List Attr = where_stated (codes "fo:margin-right") length_spelling props.margin_right in
    let p2 : List Attr = where_stated (codes "fo:margin-top") length_spelling props.margin_top in
    let p3 : List Attr = where_stated (codes "fo:margin-bottom") length_spelling props.margin_bottom in
    let p4 : List Attr = where_stated (codes "fo:text-indent") length_spelling props.indent in
    let p5 : List Attr = where_stated (codes "fo:text-align") named.align_text props.align in
    let p6 : List Attr = where_stated (codes "fo:break-before") named.break_text props.break_before in
    let p7 : List Attr = where_stated (codes "fo:break-after") named.break_text props.break_after in
    let p8 : List Attr = where_stated (codes "fo:keep-with-next") named.keep_text props.keep_next in
    let p9 : List Attr = where_stated (codes "fo:keep-together") named.keep_text props.keep_together in
    let p10 : List Attr = where_stated (codes "fo:widows") decimal props.widows in
    let p11 : List Attr = where_stated (codes "fo:orphans") decimal props.orphans in
    let p12 : List Attr = where_stated (codes "style:page-number") named.page_start_text props.page_number in
    let s0 : chars (string_bytes c.push_length_stated.new.out) ≡ old ++ flat_map attr_text p0 = c.in_ok-push_length_stated.ensures in
    let s1 = joined (chars (string_bytes c.push_length_stated-2.new.out)) (chars (string_bytes c.push_length_stated.new.out)) old (p0) p1 s0 c.in_ok-push_length_stated-2.ensures in
    let s2 = joined (chars (string_bytes c.push_length_stated-3.new.out)) (chars (string_bytes c.push_length_stated-2.new.out)) old (p0 ++ p1) p2 s1 c.in_ok-push_length_stated-3.ensures in
    let s3 = joined (chars (string_bytes c.push_length_stated-4.new.out)) (chars (string_bytes c.push_length_stated-3.new.out)) old (p0 ++ p1 ++ p2) p3 s2 c.in_ok-push_length_stated-4.ensures in
    let s4 = joined (chars (string_bytes c.push_length_stated-5.new.out)) (chars (string_bytes c.push_length_stated-4.new.out)) old (p0 ++ p1 ++ p2 ++ p3) p4 s3 c.in_ok-push_length_stated-5.ensures in
    let s5 = joined (chars (string_bytes c.push_align_stated.new.out)) (chars (string_bytes c.push_length_stated-5.new.out)) old (p0 ++ p1 ++ p2 ++ p3 ++ p4) p5 s4 c.in_ok-push_align_stated.ensures in
    let s6 = joined (chars (string_bytes c.push_break_stated.new.out)) (chars (string_bytes c.push_align_stated.new.out)) old (p0 ++ p1 ++ p2 ++ p3 ++ p4 ++ p5) p6 s5 c.in_ok-push_break_stated.ensures in
    let s7 = joined (chars (string_bytes c.push_break_stated-2.new.out)) (chars (string_bytes c.push_break_stated.new.out)) old (p0 ++ p1 ++ p2 ++ p3 ++ p4 ++ p5 ++ p6) p7 s6 c.in_ok-push_break_stated-2.ensures in
    let s8 = joined (chars (string_bytes c.push_keep_stated.new.out)) (chars (string_bytes c.push_break_stated-2.new.out)) old (p0 ++ p1 ++ p2 ++ p3 ++ p4 ++ p5 ++ p6 ++ p7) p8 s7 c.in_ok-push_keep_stated.ensures in
    let s9 = joined (chars (string_bytes c.push_keep_stated-2.new.out)) (chars (string_bytes c.push_keep_stated.new.out)) old (p0 ++ p1 ++ p2 ++ p3 ++ p4 ++ p5 ++ p6 ++ p7 ++ p8) p9 s8 c.in_ok-push_keep_stated-2.ensures in
    let s10 = joined (chars (string_bytes c.push_number_stated.new.out)) (chars (string_bytes c.push_keep_stated-2.new.out)) old (p0 ++ p1 ++ p2 ++ p3 ++ p4 ++ p5 ++ p6 ++ p7 ++ p8 ++ p9) p10 s9 c.in_ok-push_number_stated.ensures in
    let s11 = joined (chars (string_bytes c.push_number_stated-2.new.out)) (chars (string_bytes c.push_number_stated.new.out)) old (p0 ++ p1 ++ p2 ++ p3 ++ p4 ++ p5 ++ p6 ++ p7 ++ p8 ++ p9 ++ p10) p11 s10 c.in_ok-push_number_stated-2.ensures in
    joined_last c.push_page_start_stated.result (chars (string_bytes c.push_page_start_stated.new.out)) (chars (string_bytes c.push_number_stated-2.new.out)) old (p0 ++ p1 ++ p2 ++ p3 ++ p4 ++ p5 ++ p6 ++ p7 ++ p8 ++ p9 ++ p10 ++ p11) p12 s11 c.push_page_start_stated.ensures
