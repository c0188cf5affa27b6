mod AskedLaws
pub mod BackLaws
mod ExportsLaws
mod GoesLaws
mod HeldLaws
mod IpfixLaws
mod MessagesLaws
mod PackerLaws
mod PackingLaws
mod RecordsLaws
mod SizeLaws
mod TakerLaws
