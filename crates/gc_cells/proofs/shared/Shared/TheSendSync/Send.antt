-- The words of a table may go to another thread.
use denote.RattleType.{RattleType}
use denote.Param.Send.{IsSend}
use Rattle.gc_cells.specs.declared.shared.TableRule.{Ghosts}
use Rattle.gc_cells.specs.contracts.shared.Shared.{the_row}
use Rattle.atomic_table.proofs.Sent.{owns_keyless}

pub send : (S V K P : RattleType) (g : Ghosts P.Denot S.Denot V.Denot K.Denot) → IsSend S → IsSend (the_row S V K P g)
send S V K P g s = record { owned = λ d vs. ((λ vss. (tt, (tt, (tt, ((λ uss. (tt, tt)), tt))))), owns_keyless S s V.coded.code d.table_id (g.holds d.key) d.words d.slots); leaving = λ k f vs. tt }
