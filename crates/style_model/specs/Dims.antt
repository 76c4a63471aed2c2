-- The dimensions of pages: how many columns and rows stand between the margins of a layout.
use Rattle.std.specs.Prelude.{ℕ, ℤ, pos, negsuc, ◌-ℤ◌, int_div, max, Option, Some, None, unwrap_or}
use Rattle.doc_model.specs.declared.page_layout.PageLayout.{PageLayout}

-- what a layout states of a length, or what holds where it, or the layout, is unstated
abbrev pub stated_or : (PageLayout → Option ℤ) → ℤ → Option PageLayout → ℤ
stated_or part unstated None = unstated
stated_or part unstated (Some layout) = unwrap_or (part layout) unstated

-- an unstated page is 8.5 by 11 inches, with margins of 0.7874 inches
abbrev pub unstated_width : ℤ
unstated_width = pos 7772400

abbrev pub unstated_height : ℤ
unstated_height = pos 10058400

abbrev pub unstated_margin : ℤ
unstated_margin = pos 719998

-- the units of a column, ten to an inch, and of a row, six to an inch
abbrev pub column_units : ℤ
column_units = pos 91440

abbrev pub row_units : ℤ
row_units = pos 152400

-- a number, or the least one where it is below that
abbrev pub at_least : ℕ → ℤ → ℕ
at_least least (pos number) = max least number
at_least least (negsuc number) = least

-- the columns of a page: the whole ones between its side margins, and at least eight
abbrev pub columns_of : Option PageLayout → ℕ
columns_of layout = at_least 8 (int_div (stated_or (λ page. page.width) unstated_width layout -ℤ stated_or (λ page. page.left) unstated_margin layout -ℤ stated_or (λ page. page.right) unstated_margin layout) column_units)

-- the rows of a page: the whole ones between its top and bottom margins, and at least four
abbrev pub rows_of : Option PageLayout → ℕ
rows_of layout = at_least 4 (int_div (stated_or (λ page. page.height) unstated_height layout -ℤ stated_or (λ page. page.top) unstated_margin layout -ℤ stated_or (λ page. page.bottom) unstated_margin layout) row_units)
