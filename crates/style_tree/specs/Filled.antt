-- Properties of which the unstated ones are taken from others.
use Rattle.std.specs.Option.{option_or}
use Rattle.doc_model.specs.declared.style.Props.{Props}

-- the first properties, and where they state nothing, the second
abbrev pub filled : Props → Props → Props
filled first second = record {
  margin_left = option_or first.margin_left second.margin_left;
  margin_right = option_or first.margin_right second.margin_right;
  margin_top = option_or first.margin_top second.margin_top;
  margin_bottom = option_or first.margin_bottom second.margin_bottom;
  indent = option_or first.indent second.indent;
  align = option_or first.align second.align;
  break_before = option_or first.break_before second.break_before;
  break_after = option_or first.break_after second.break_after;
  keep_next = option_or first.keep_next second.keep_next;
  keep_together = option_or first.keep_together second.keep_together;
  widows = option_or first.widows second.widows;
  orphans = option_or first.orphans second.orphans;
  page_number = option_or first.page_number second.page_number;
  display = option_or first.display second.display;
  tabs = option_or first.tabs second.tabs;
}
