-- `Header::write_after`: the references' bits and the zeros behind them are put on the page, and the page's bytes are laid onto the header's.
-- Assumes nothing.
use mathlib.Core.Path.{◌∙◌, sym}
use native.Mathlib.Omega.{arith}
use Rattle.std.proofs.lemmas.List.{length-take-le}
use Rattle.header.specs.Writing.{header_bits}
use Rattle.header.proofs.Page.{page-room, pad-room, enough, laid}
use Rattle.header.proofs.RoundTrip.{at-most-987-bits, header-bits}
use Rattle.header.proofs.Header.write_after.Goals as goal

pub write-end-requires : goal.write-end-requires
write-end-requires c = let p = c.requires in
    let h = c.args.self in
    (p.0, page-room c.args.start c.args.before c.args.header.now p.1 (header_bits h.types.now h.params.now h.flag h.prior.now) (at-most-987-bits h.flag h.types.now h.params.now h.prior.now) p.2 _ c.page_of-page.ensures _ c.new.ensures)

pub byte_align-last-requires : goal.byte_align-last-requires
byte_align-last-requires c = let p = c.requires in
    let h = c.args.self in
    pad-room c.args.start c.args.before c.args.header.now p.1 (header_bits h.types.now h.params.now h.flag h.prior.now) (at-most-987-bits h.flag h.types.now h.params.now h.prior.now) p.2 _ c.page_of-page.ensures _ c.new.ensures _ _ c.write-end.ensures

pub slice_bounds-copy_from_slice-end : goal.slice_bounds-copy_from_slice-end
slice_bounds-copy_from_slice-end c = let p = c.requires in
    let h = c.args.self in
    (enough c.args.start c.args.before c.args.header.now p.1 (header_bits h.types.now h.params.now h.flag h.prior.now) (at-most-987-bits h.flag h.types.now h.params.now h.prior.now) p.2 _ c.page_of-page.ensures _ c.new.ensures _ _ c.write-end.ensures _ _ c.byte_align-last.ensures).1

pub slice_bounds-page-end : goal.slice_bounds-page-end
slice_bounds-page-end c = let p = c.requires in
    let h = c.args.self in
    (enough c.args.start c.args.before c.args.header.now p.1 (header_bits h.types.now h.params.now h.flag h.prior.now) (at-most-987-bits h.flag h.types.now h.params.now h.prior.now) p.2 _ c.page_of-page.ensures _ c.new.ensures _ _ c.write-end.ensures _ _ c.byte_align-last.ensures).0

pub slice_bounds-copy_from_slice-end-2 : goal.slice_bounds-copy_from_slice-end-2
slice_bounds-copy_from_slice-end-2 c = let p = c.requires in
    let h = c.args.self in
    sym (length-take-le _ c.args.header.now (enough c.args.start c.args.before c.args.header.now p.1 (header_bits h.types.now h.params.now h.flag h.prior.now) (at-most-987-bits h.flag h.types.now h.params.now h.prior.now) p.2 _ c.page_of-page.ensures _ c.new.ensures _ _ c.write-end.ensures _ _ c.byte_align-last.ensures).1)

pub slice_bounds-copy_from_slice-end-3 : goal.slice_bounds-copy_from_slice-end-3
slice_bounds-copy_from_slice-end-3 c = let p = c.requires in
    let h = c.args.self in
    sym (length-take-le _ c.byte_align-last.new.buffer (enough c.args.start c.args.before c.args.header.now p.1 (header_bits h.types.now h.params.now h.flag h.prior.now) (at-most-987-bits h.flag h.types.now h.params.now h.prior.now) p.2 _ c.page_of-page.ensures _ c.new.ensures _ _ c.write-end.ensures _ _ c.byte_align-last.ensures).0)

pub copy_from_slice-requires : goal.copy_from_slice-requires
copy_from_slice-requires c = let p = c.requires in
    let h = c.args.self in
    let both = enough c.args.start c.args.before c.args.header.now p.1 (header_bits h.types.now h.params.now h.flag h.prior.now) (at-most-987-bits h.flag h.types.now h.params.now h.prior.now) p.2 _ c.page_of-page.ensures _ c.new.ensures _ _ c.write-end.ensures _ _ c.byte_align-last.ensures in
    length-take-le _ c.args.header.now both.1 ∙ sym (length-take-le _ c.byte_align-last.new.buffer both.0)

pub returns : goal.returns
returns c = let p = c.requires in
    let h = c.args.self in
    let bits = header_bits h.types.now h.params.now h.flag h.prior.now in
    let few = at-most-987-bits h.flag h.types.now h.params.now h.prior.now in
    let put = laid c.args.start c.args.before c.args.header.now p.1 bits few p.2 _ c.page_of-page.ensures _ c.new.ensures _ _ c.write-end.ensures _ _ c.byte_align-last.ensures in (
      omega (arith, c.write-end.ensures.at, c.new.ensures),
      rw c.copy_from_slice.ensures.after (put (header-bits h.flag h.types.now h.params.now h.prior.now) (λ i. omega (arith, c.slice_known-1.given i))),
    )
