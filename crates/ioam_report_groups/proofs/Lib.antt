mod GroupsLaws
