use Rattle.buffers.proofs.Parts.{placed_stays}
use Rattle.reader_scan.proofs.Behind.{append_behind, append_moved, moved_stays}
use borrow.Author.Rules.{rules}
use Rattle.reader_scan.proofs.append.Goals as goal

pub returns-then-bytes-held : goal.returns-then-bytes-held
returns-then-bytes-held c =
    let a = c.args in (
      search rules,
      search rules,
      append_behind a.held.now a.bytes.now _ a.at a.end (search rules) (search rules)
          c.place.ensures,
      placed_stays a.held.now a.bytes.now _ a.end (search rules) c.place.ensures,
    )

pub returns : goal.returns
returns c =
    let a = c.args in (
      search rules,
      search rules,
      append_moved a.held.now _ a.bytes.now _ a.at a.end (search rules) (search rules) (search rules)
          c.shift.ensures c.place-2.ensures,
      moved_stays a.held.now _ a.bytes.now _ a.at a.end (search rules) (search rules) (search rules)
          c.shift.ensures c.place-2.ensures,
    )
