use Rattle.run_notes.proofs.notes.write_due.Goals as goal

pub returns-in-Vex : goal.returns-in-Vex
returns-in-Vex g c = rw (c.in-Vex.is, ← c.name.ensures) c.write_at_byte.ensures

pub returns-in-Schedule : goal.returns-in-Schedule
returns-in-Schedule g c = rw (c.in-Schedule.is, ← c.name-in-Schedule.ensures) c.write_at_byte-in-Schedule.ensures

pub returns-in-Job : goal.returns-in-Job
returns-in-Job g c = rw (c.in-Job.is, ← c.name-in-Job.ensures) c.write_in_line.ensures

pub returns-in-Join : goal.returns-in-Join
returns-in-Join g c = rw (c.in-Join.is, ← c.name-in-Join.ensures) c.write_for.ensures

pub returns-in-Limit : goal.returns-in-Limit
returns-in-Limit g c = rw (c.in-Limit.is, ← c.name-in-Limit.ensures, ← c.as_bytes.ensures.value) c.write_pair.ensures

pub returns-in-NoFile : goal.returns-in-NoFile
returns-in-NoFile g c = rw (c.in-NoFile.is, ← c.bytes.ensures) c.append_pieces.ensures

pub returns-in-Recording : goal.returns-in-Recording
returns-in-Recording g c = rw (c.in-Recording.is, ← c.bytes-in-Recording.ensures, ← c.name-in-Recording.ensures) c.write_pair-in-Recording.ensures

pub returns-in-Records : goal.returns-in-Records
returns-in-Records g c = rw (c.in-Records.is, ← c.name-in-Records.ensures) c.write_at_byte-in-Records.ensures

pub returns-in-Bins : goal.returns-in-Bins
returns-in-Bins g c = rw (c.in-Bins.is, ← c.name-in-Bins.ensures) c.write_in_line-in-Bins.ensures

pub returns-in-NoPhase : goal.returns-in-NoPhase
returns-in-NoPhase g c = rw (c.in-NoPhase.is) c.write_for-in-NoPhase.ensures

pub returns-in-NotShard : goal.returns-in-NotShard
returns-in-NotShard g c = rw (c.in-NotShard.is, ← c.bytes-in-NotShard.ensures) c.write_pair-in-NotShard.ensures

pub returns-in-Uncovered : goal.returns-in-Uncovered
returns-in-Uncovered g c = rw (c.in-Uncovered.is) c.write_number-in-Uncovered.ensures

pub returns-in-Differs : goal.returns-in-Differs
returns-in-Differs g c = rw (c.in-Differs.is) c.write_differs.ensures
