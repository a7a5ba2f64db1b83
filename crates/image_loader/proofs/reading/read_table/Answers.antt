use Rattle.std.proofs.Common.{◌+◌, List, ap, sym, subst, arith}
use Rattle.ven_base.specs.declared.entry.Entry.{Entry}
use Rattle.image_loader.specs.Table.{Header}
use Rattle.image_loader.specs.Image.{raw_entry, raw_entries}
use Rattle.image_loader.specs.Clear.{IsAtEntry, IsEntryRead, AreEntriesRead}
use Rattle.image_loader.proofs.Stops.{at_entry, table_begins, table_goes_on, table_ends}
use Rattle.image_loader.proofs.reading.read_table.Goals as goal

pub loop-init : goal.loop-init
loop-init c = table_begins c.args.bytes.now c.new-arrays.result.items c.new-arrays.ensures.items c.requires.read.read

pub read_entry-requires-clause-at : goal.read_entry-requires-clause-at
read_entry-requires-clause-at c =
    let bytes = c.args.bytes.now in
    let i = c.loop.invariant in
    subst (λ (es : List Entry). IsAtEntry bytes c.loop.place c.args.header.memory (raw_entries es)) (sym c.deref.ensures.value)
    (at_entry bytes c.loop.place c.args.header.memory (raw_entries c.loop.arrays.items) i.read i.place_is (ap (λ (h : Header). h.memory) c.requires.read.numbers) i.are
    (omega (arith, i.count, ap (λ (h : Header). h.array_count) c.requires.read.numbers)))

pub loop-preserved : goal.loop-preserved
loop-preserved c =
    let bytes = c.args.bytes.now in
    let i = c.loop.invariant in
    let memory = c.args.header.memory in
    let place = c.loop.place in
    let arrays = c.loop.arrays.items in
    let at : IsAtEntry bytes place memory (raw_entries arrays) =
    at_entry bytes place memory (raw_entries arrays) i.read i.place_is (ap (λ (h : Header). h.memory) c.requires.read.numbers) i.are
    (omega (arith, i.count, ap (λ (h : Header). h.array_count) c.requires.read.numbers)) in
    let read : IsEntryRead bytes place memory (raw_entries arrays) (raw_entry c.in_ok-entry.entry) =
    subst (λ (es : List Entry). IsEntryRead bytes place memory (raw_entries es) (raw_entry c.in_ok-entry.entry)) c.deref.ensures.value c.in_ok-entry.ensures in
    subst (λ n. AreEntriesRead bytes c.keep.new.items.items (place + n) (c.loop.counter + 1)) (sym c.entry_bytes-place.ensures.size)
    (table_goes_on bytes arrays c.keep.new.items.items c.in_ok-entry.entry place memory c.loop.counter i at read (omega (arith, c.entry_bytes-place.ensures.size, c.entry_bytes-place.ensures.few)) c.in_ok-keep.ensures.kept)

pub returns : goal.returns
returns c =
    table_ends c.args.bytes.now c.loop.arrays.items c.loop.place c.loop.counter c.loop.invariant
    (omega (arith, ap (λ (h : Header). h.array_count) c.requires.read.numbers))
