-- A seat may go to another thread.
use denote.RattleType.{RattleType}
use denote.Param.Send.{IsSend}
use Rattle.gc_cells.specs.contracts.shared.Seat.{the_row}
use Rattle.atomic_table.proofs.Sent.{seat_keyless}

pub send : (S V : RattleType) → IsSend S → IsSend (the_row S V)
send S V s = record { owned = λ d vs. ((λ vss. (tt, ((λ uss. (tt, tt)), tt))), seat_keyless S s V.coded.code d.table_id d.id d.me); leaving = λ k f vs. tt }
