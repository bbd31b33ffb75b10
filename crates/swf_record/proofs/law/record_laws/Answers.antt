use Rattle.swf_record.proofs.Fields.{read_again}
use Rattle.swf_record.proofs.Laws.{encodes_decoded, decoded_encodes, one_list}
use Rattle.swf_record.proofs.law.record_laws.Goals as goal

pub returns-clause-encoded : goal.returns-clause-encoded
returns-clause-encoded c = encodes_decoded

pub returns-clause-decoded : goal.returns-clause-decoded
returns-clause-decoded c = decoded_encodes

pub returns-clause-one : goal.returns-clause-one
returns-clause-one c = one_list

pub returns-clause-values : goal.returns-clause-values
returns-clause-values c = λ most v below valued nests short. record { short = short; again = read_again most v below valued nests }
