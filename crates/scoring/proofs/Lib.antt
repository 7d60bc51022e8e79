mod Entering
