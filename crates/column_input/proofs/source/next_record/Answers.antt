use Rattle.column_input.proofs.Ahead.{read-one, read-stopped}
use Rattle.column_input.proofs.source.next_record.Goals as goal

pub returns-in-Ok-clause-reading : goal.returns-in-Ok-clause-reading
returns-in-Ok-clause-reading c =
    let read = c.in-Ok.ensures.reads c.requires.plain c.requires.ready in
    let first = c.in-Ok.ensures.ready c.requires.plain in
    (read-one c.args.reader.now c.read_byte_record.new.self c.in-Ok.found _ c.requires read first c.in-Ok.ensures.flexible).0

pub returns-in-Ok-clause-records : goal.returns-in-Ok-clause-records
returns-in-Ok-clause-records c =
    let read = c.in-Ok.ensures.reads c.requires.plain c.requires.ready in
    let first = c.in-Ok.ensures.ready c.requires.plain in
    (read-one c.args.reader.now c.read_byte_record.new.self c.in-Ok.found _ c.requires read first c.in-Ok.ensures.flexible).1

pub want_of_memory-requires : goal.want_of_memory-requires
want_of_memory-requires c = read-stopped c.args.reader.now c.read_byte_record.new.self _ c.requires (c.in-Err.ensures.why c.requires.ready)
