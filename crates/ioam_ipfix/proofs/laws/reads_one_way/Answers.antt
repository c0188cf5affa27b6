use Rattle.ioam_ipfix.proofs.ReadsLaws.{IpfixOf-unique, Reads-unique}
use Rattle.ioam_ipfix.proofs.laws.reads_one_way.Goals as goal

pub returns-clause-messages : goal.returns-clause-messages
returns-clause-messages c = IpfixOf-unique

pub returns-clause-endings : goal.returns-clause-endings
returns-clause-endings c = λ octets xs d reads others other also. Reads-unique octets others xs other d also reads
