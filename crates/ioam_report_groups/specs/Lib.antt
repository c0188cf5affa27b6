pub mod GroupsText
